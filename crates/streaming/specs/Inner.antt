-- What reading a streaming block answers, computed: 20 to 24, the walk over its descriptors with 25 to 35, then 36 to 38. Nothing here needs to be believed: Broken
-- says it without a walk. `t` is the entity table, `s` the block.
use Rattle.rules.specs.Verdicts.{Verdict, accept, refuse}
use Rattle.std.specs.Prelude.{ℕ, zero, suc, ◌+◌, List, Bool, not, ◌||◌, length, get_or, replicate, ltb, eqb, Err, Ok}
use Rattle.rules.specs.IfElse.{if_else}
use Rattle.rules.specs.Numbered.{first_row}
use Rattle.rules.specs.Walk.{Outcome, done, stop, walk}
use Rattle.entities.specs.declared.Table.{Table}
use Rattle.streaming_descriptors.specs.Descriptors.{no_format}
use Rattle.streaming_rules.specs.Rules.{formats_most, head_rows}
use Rattle.streaming_descriptors.specs.declared.Format.{Format}
use Rattle.rules.specs.Place.{first_place}
use Rattle.streaming.specs.declared.Streaming.{Streaming}
use Rattle.streaming.specs.Answer.{linked_to, link_of, format_count, Seen, count_under, course, refused_by, accepted_with}

-- no frame stands under any format
abbrev pub no_counts : List ℕ
no_counts = replicate (suc formats_most) 0

-- 36: a format's frame count is not the number of its frames
abbrev pub count_broken : Format → ℕ → Bool
count_broken f n = not (eqb f.frames n)

-- 37: its default is not 1 to its frame count
unfoldable pub default_broken : Format → Bool
default_broken f = eqb f.default 0 || ltb f.frames f.default

-- 36 to 38, number by number, each at the first of the n formats that breaks it; `frames i` is the number of frames of the format at place i, and p the header's
-- number of formats
unfoldable pub late_by : (ℕ → Format) → (ℕ → ℕ) → ℕ → ℕ → Verdict
late_by format frames n p =
    let i = first_place (λ i. count_broken (format i) (frames i)) n in
    let j = first_place (λ i. default_broken (format i)) n in
    if_else (ltb i n) (refuse 36 (format i).offset)
    (if_else (ltb j n) (refuse 37 (format j).offset)
    (if_else (eqb n p) accept (refuse 38 0)))

abbrev pub late : List ℕ → Seen → Verdict
late s a = late_by (λ i. get_or a.formats i no_format) (λ i. count_under (i + 1) a.frames) (length a.formats) (format_count s)

-- the answer
abbrev pub answer : Verdict → List ℕ → Seen → Streaming
answer (Ok _) s a = accepted_with s a
answer (Err r) s a = refused_by r.number r.offset

unfoldable pub after_walk : List ℕ → Outcome Seen → Streaming
after_walk s (done a) = answer (late s a) s a
after_walk s (stop k o) = refused_by k o

abbrev pub walked : Bool → List ℕ → Streaming
walked linked s = after_walk s (walk (course linked s))

unfoldable pub after_head : ℕ → Table → List ℕ → Streaming
after_head zero t s = walked (linked_to t (link_of s)) s
after_head (suc k) t s = refused_by (suc k) 0

unfoldable pub streaming_of : Table → List ℕ → Streaming
streaming_of t s = after_head (first_row (head_rows t.count s)) t s
