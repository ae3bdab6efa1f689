-- THE LINES, as the code counts them, are those of the words: fewer than 2^64 frames end.
use Rattle.std.specs.Prelude.{None}
use Rattle.session_rules.specs.Options.{Stamp}
use Rattle.std.proofs.Common.{◌≡◌, ℕ, ◌+◌, ◌^◌, ◌<◌, List, [], ◌∷◌, ◌++◌, length, refl, ap, ◌∙◌, arith}
use Rattle.endings.specs.declared.How.{How}
use Rattle.endings.specs.declared.How.TheVariants.{Delivered, Still, Dropped}
use Rattle.endings.specs.declared.Ending.{Ending}
use Rattle.frame_lines.specs.declared.Show.TheVariants.{Nothing, Replay, Frames}
use Rattle.frame_lines.specs.declared.Counted.{Counted}
use Rattle.frame_lines.specs.Lines.{since_of, last_of, replay_text, frame_text, replay_how, replay_lines, frame_lines}
use Rattle.frame_lines.specs.Inner.{next_number, replay_by, counted_by, lines_in}

next-is : (n : ℕ) → n + 1 < 2 ^ 64 → next_number n ≡ n + 1
next-is n h = omega arith

module _ (e : Ending) (es : List Ending) (n : ℕ) (last : Stamp) (h : n + 1 < 2 ^ 64)
    (more : (s : Stamp) → lines_in Replay (record { number = n + 1; last = s }) es ≡ replay_lines (n + 1) s es) (same : lines_in Replay (record { number = n; last = last }) es ≡ replay_lines n last es) where
  abbrev c : Counted
  c = record { number = n; last = last }

  on : (s : Stamp) → lines_in Replay (record { number = next_number n; last = s }) es ≡ replay_lines (n + 1) s es
  on s = ap (λ (m : ℕ). lines_in Replay (record { number = m; last = s }) es) (next-is n h) ∙ more s

  one_more : (w : How) → replay_by w c e.len e.stamp ++ lines_in Replay (counted_by w c e.stamp) es ≡ replay_how w e.len n last e.stamp (λ m s. replay_lines m s es)
  one_more Delivered = ap (replay_text n e.len (since_of last e.stamp) ++◌) (on (last_of last e.stamp))
  one_more Still = ap (replay_text n e.len None ++◌) (on last)
  one_more (Dropped w) = same

pub replay-lines : (es : List Ending) (n : ℕ) (last : Stamp) → n + length es < 2 ^ 64 → lines_in Replay (record { number = n; last = last }) es ≡ replay_lines n last es
replay-lines [] n last h = refl
replay-lines (e ∷ es) n last h = one_more e es n last (omega arith) (λ s. replay-lines es (n + 1) s (omega arith)) (replay-lines es n last (omega arith)) e.how

pub frame-lines : (es : List Ending) (n : ℕ) (last : Stamp) → n + length es < 2 ^ 64 → lines_in Frames (record { number = n; last = last }) es ≡ frame_lines n es
frame-lines [] n last h = refl
frame-lines (e ∷ es) n last h =
    ap (frame_text n e ++◌) (ap (λ (m : ℕ). lines_in Frames (record { number = m; last = last }) es) (next-is n (omega arith)) ∙ frame-lines es (n + 1) last (omega arith))

pub no_lines_lem : (es : List Ending) (c : Counted) → lines_in Nothing c es ≡ []
no_lines_lem [] c = refl
no_lines_lem (e ∷ es) c = no_lines_lem es c
