-- What the contracts cite, as the code searches: the descriptors in a row, the blocks, and 75. Nothing here needs to be believed: layout/specs and
-- configuration_words/specs say it in words. `s` is the configuration.
use Rattle.std.specs.Prelude.{ℕ, zero, suc, ◌-◌, List, [], ◌∷◌, map, Bool, false, ◌||◌, length, take, drop, get_or, replicate, ltb, eqb, leb}
use Rattle.rules.specs.IfElse.{if_else}
use Rattle.configuration_rules.specs.Descriptors.{after_at, is_sought, number_at}
use Rattle.configuration_rules.specs.declared.Sought.{Sought}
use Rattle.le.specs.Le.{byte}
use Rattle.rules.specs.Pad.{pad}
use Rattle.rules.specs.Place.{first_place}
use Rattle.configuration_rules.specs.declared.Sought.TheVariants.{Listed, Outside, Setting}
use Rattle.interfaces.specs.declared.Block.{Block}
use Rattle.interfaces.specs.declared.Stream.{Stream}
use Rattle.interfaces.specs.declared.Streams.{Streams}
use Rattle.interfaces.specs.Line.{those}
use Rattle.interfaces.specs.Limits.{interfaces_most, settings_most, no_stream, listed_among, settings_among}

-- where the descriptors start from o on, at most so many of them
unfoldable pub line_from : ℕ → List ℕ → ℕ → List ℕ
line_from zero s o = []
line_from (suc n) s o = if_else (ltb o (length s)) (o ∷ line_from n s (after_at s o)) []

abbrev pub line : List ℕ → ℕ → List ℕ
line s o = line_from (length s) s o

-- the descriptors from o on that are what is sought
unfoldable pub found : Sought → List ℕ → ℕ → List ℕ
found w s o = those (is_sought w s) (line s o)

-- the first of a list, or d where it is empty
abbrev pub head_or : ℕ → List ℕ → ℕ
head_or d [] = d
head_or d (o ∷ l) = o

-- the first from o on that is what is sought; the end where none is
unfoldable pub next_of : Sought → List ℕ → ℕ → ℕ
next_of w s o = head_or (length s) (found w s o)

-- where the block starts and ends, and its bytes
abbrev pub block_start : List ℕ → ℕ → ℕ
block_start s o = after_at s o

abbrev pub block_end : List ℕ → ℕ → ℕ
block_end s o = next_of Outside s (after_at s o)

abbrev pub block_of : List ℕ → ℕ → List ℕ
block_of s o = take (block_end s o - block_start s o) (drop (block_start s o) s)

unfoldable pub block_at : List ℕ → ℕ → Block
block_at s o = record { interface = number_at s o; offset = block_start s o; length = block_end s o - block_start s o }

-- byte 6 of a streaming block is its header's endpoint
unfoldable pub stream_at : List ℕ → ℕ → Stream
stream_at s o =
    record { interface = number_at s o; endpoint = byte s (block_start s o) 6; offset = block_start s o; length = block_end s o - block_start s o }

-- the streaming interfaces: their descriptors of setting 0, in order of appearance
abbrev pub listed_in : List ℕ → List ℕ
listed_in s = found Listed s 0

-- the first 8 of them, unused places zero
unfoldable pub streams_of : List ℕ → Streams
streams_of s =
    let l = map (stream_at s) (take interfaces_most (listed_in s)) in
    record { count = length l; streams = pad interfaces_most no_stream l }

-- the place of the first of this number; n where there is none
abbrev pub place_of : List Stream → ℕ → ℕ → ℕ
place_of l n number = first_place (λ i. eqb (get_or l i no_stream).interface number) n

-- the descriptor at o is one too many, after so many of setting 0 and so many of its number
unfoldable pub one_too_many : List ℕ → ℕ → ℕ → ℕ → Bool
one_too_many s o listed seen =
    if_else (is_sought Listed s o) (leb interfaces_most listed) false
    || if_else (is_sought (Setting (number_at s o)) s o) (leb settings_most seen) false

-- the one at place i is one too many
unfoldable pub too_many_at : List ℕ → List ℕ → ℕ → Bool
too_many_at s l i = one_too_many s (get_or l i 0) (listed_among s (take i l)) (settings_among s (number_at s (get_or l i 0)) (take i l))

abbrev pub first_too_many : List ℕ → ℕ
first_too_many s = first_place (too_many_at s (line s 0)) (length (line s 0))

-- the first that is; the end where none is
unfoldable pub too_many : List ℕ → ℕ
too_many s = get_or (line s 0) (first_too_many s) (length s)

abbrev pub no_counts : List ℕ
no_counts = replicate 256 0
