-- Sessions that are opened alike read, hand out and turn alike: of the framing byte only D1 is looked at.
use Rattle.std.specs.Prelude.{None, Some}
use Rattle.session_rules.specs.Options.{Ended}
use Prim.Native.Nat.{ℕ, ◌+◌}
use mathlib.Core.Path.{◌≡◌, refl, sym, ap, subst}
use mathlib.Core.Bool.{Bool, false, not, ◌&&◌}
use mathlib.Core.List.{List, [], ◌∷◌}
use Rattle.rules.specs.IfElse.{if_else}
use Rattle.sizes.specs.declared.Opening.{Opening}
use Rattle.sizes.specs.declared.HeaderKind.TheVariants.{Old}
use Rattle.session_rules.specs.declared.Header.{Header}
use Rattle.session_rules.specs.Layouts.{header_layout}
use Rattle.session_rules.specs.Transfer.{sorted_by, reading_of}
use Rattle.session_rules.specs.declared.Reason.TheVariants.{Cut, Empty}
use Rattle.session_rules.specs.declared.Run.{Run}
use Rattle.session_rules.specs.declared.Phase.{Phase}
use Rattle.session_rules.specs.declared.Phase.TheVariants.{Fresh, Under, Past}
use Rattle.session_rules.specs.declared.Track.{Track}
use Rattle.session_rules.specs.Turns.{same_of, ready_of, why_of, begun_of, joined_of, written_of, phase_of, fate_of, join_turn, stray_turn, turn_by, turn_of, hands_by, hands_of}
use Rattle.books.specs.Alike.{OpenedAlike}

pub alike-itself : (o : Opening) → OpenedAlike o o
alike-itself o = record { frame = refl; payload = refl; framing = refl; kind = refl }

-- of openings that are equal to such
pub alike_moved : (o p q r : Opening) → q ≡ o → r ≡ p → OpenedAlike o p → OpenedAlike q r
alike_moved o p q r e f a = subst (λ (w : Opening). OpenedAlike w r) (sym e) (subst (OpenedAlike o) (sym f) a)

-- joining a frame looks at the frame size, and at nothing else but D1
abbrev sized : ℕ → Opening
sized n = record { frame = n; payload = 0; framing = 0; kind = Old }

module _ (o p : Opening) (a : OpenedAlike o p) where
  pub reads-alike : (t : List ℕ) → reading_of o t ≡ reading_of p t
  unfolding reading_of
  reads-alike [] = refl
  reads-alike (b ∷ t) = λ i. sorted_by (header_layout (a.kind i)) (a.payload i) (b ∷ t)

  hands-by : (h : Header) (ph : Phase) → hands_by ph o h ≡ hands_by ph p h
  hands-by h Fresh = refl
  hands-by h (Past f) = refl
  hands-by h (Under r) = ap (λ (c : Bool). not c && (not (same_of r.fid h.fid) && ready_of r.fault r.bytes)) a.framing

  pub hands-alike : (T : Track) (h : Header) → hands_of o T h ≡ hands_of p T h
  unfolding hands_of
  hands-alike T h = hands-by h T.phase

  join-alike : (r : Run) (h : Header) (n : ℕ) (e : Ended) (gone : ℕ) → join_turn o r h n e gone ≡ join_turn p r h n e gone
  join-alike r h n e gone = λ i.
      let j : Run = joined_of (sized (a.frame i)) r h n in
      let ends : Bool = a.framing i && h.eof in
      record {
        track = record { phase = phase_of ends j; gap = false };
        answer = record { ended = e; fate = fate_of ends j };
        gone = gone;
        bytes = r.bytes + n;
        at = r.fill;
        len = written_of j.fault n;
      }

  turn_by_lem : (h : Header) (n : ℕ) (gap : Bool) (ph : Phase) → turn_by ph o gap h n ≡ turn_by ph p gap h n
  turn_by_lem h n gap Fresh = join-alike (begun_of gap h.fid h.still) h n None 0
  turn_by_lem h n gap (Past f) = ap (if_else (same_of f h.fid) (stray_turn f n)) (join-alike (begun_of gap h.fid h.still) h n None 0)
  turn_by_lem h n gap (Under r) =
      (λ i. if_else (same_of r.fid h.fid) (join-alike r h n None 0 i)
      (join-alike (begun_of gap h.fid h.still) h n (Some (why_of r.fault (if_else (a.framing i) Cut Empty))) r.bytes i))

  pub turn-alike : (T : Track) (h : Header) (n : ℕ) → turn_of o T h n ≡ turn_of p T h n
  unfolding turn_of
  turn-alike T h n = turn_by_lem h n T.gap T.phase
