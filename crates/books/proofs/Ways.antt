-- What a call leaves at the front of the buffer: of two buffers that agree on the bytes of the frame under way, the bytes of the frame that is handed out and of the one under way after it are the same.
use Rattle.std.specs.Prelude.{None, Some}
use Rattle.session_rules.specs.Options.{Ended, Fault, Layer, Stamp}
use Prim.Native.Nat.{ℕ, ◌+◌, ◌≤◌}
use mathlib.Core.Path.{◌≡◌, refl, sym, ap, ◌∙◌}
use mathlib.Core.Bool.{Bool, true, false, not, ◌&&◌, true≢false}
use mathlib.Core.List.{List, ◌++◌}
use native.Mathlib.Omega.{arith}
use lib.ListN.{length, take}
use lib.Seq.{paste, paste-zero, take-paste}
use lib.Dec.{ltb, eqb}
use Rattle.rules.specs.IfElse.{if_else}
use Rattle.sizes.specs.declared.Opening.{Opening}
use Rattle.sizes.specs.Framing.{by_eof}
use Rattle.session_rules.specs.declared.Header.{Header}
use Rattle.session_rules.specs.declared.Run.{Run}
use Rattle.session_rules.specs.declared.Phase.{Phase}
use Rattle.session_rules.specs.declared.Phase.TheVariants.{Fresh, Under, Past}
use Rattle.session_rules.specs.declared.Reason.TheVariants.{Empty}
use Rattle.session_rules.specs.declared.Delivery.{Delivery}
use Rattle.session_rules.specs.declared.Fate.{Fate}
use Rattle.session_rules.specs.declared.Turn.{Turn}
use Rattle.session_rules.specs.Turns.{clash_of, same_of, mixed_of, why_of, begun_of, fault_of, joined_of, filled_of, written_of, complete_of, ends_of, turned_why, fate_of, phase_of, join_turn, stray_turn, turn_by, ready_of, hands_by, out_by}
use Rattle.books.proofs.Sound.{Snug, Fit, snug-joined, snug-begun}
use Rattle.books.specs.Alike.{fate_length, fill_of}

snug-within : (frame : ℕ) (q : Fault) (fill bytes : ℕ) → Snug frame q fill bytes → fill ≤ frame
snug-within frame None fill bytes e = omega arith
snug-within frame (Some w) fill bytes e = e

-- two buffers with room for the frame that agree on its first `fill` bytes
pub record Agree (frame fill : ℕ) (A B : List ℕ) : Type 0 where
  pub room-a : frame ≤ length A
  pub room-b : frame ≤ length B
  pub same : take fill A ≡ take fill B

-- n bytes of data more, written if there is no fault
pub more : (q : Fault) (fill n : ℕ) (d A B : List ℕ) → fill ≤ length A → fill ≤ length B → n ≤ length d → take fill A ≡ take fill B
    → take (filled_of q fill n) (paste A fill d (written_of q n)) ≡ take (filled_of q fill n) (paste B fill d (written_of q n))
more None fill n d A B a b k e = take-paste A fill d n a k ∙ ap (λ (l : List ℕ). l ++ take n d) e ∙ sym (take-paste B fill d n b k)
more (Some w) fill n d A B a b k e = ap (take fill) (sym (paste-zero A fill d)) ∙ e ∙ ap (take fill) (paste-zero B fill d)

-- the bytes of a complete frame
pub complete-bytes : (frame : ℕ) (q : Fault) (fill bytes : ℕ) (s : Stamp) (y : Layer) (b : Bool) (A B : List ℕ) → Snug frame q fill bytes → take fill A ≡ take fill B
    → take (fate_length (complete_of q bytes s y b)) A ≡ take (fate_length (complete_of q bytes s y b)) B
unfolding if_else
complete-bytes frame (Some w) fill bytes s y b A B g e = refl
complete-bytes frame None fill bytes s y b A B g e = go (eqb bytes 0) b
  where
    whole : take bytes A ≡ take bytes B
    whole = ap (λ (k : ℕ). take k A) (sym g.0) ∙ e ∙ ap (λ (k : ℕ). take k B) g.0

    x : Delivery
    x = record { len = bytes; stamp = s; layer = y }

    go : (c d : Bool) → take (fate_length (if_else c (Fate.Dropped Empty) (if_else d (Fate.Still x) (Fate.Delivered x)))) A ≡ take (fate_length (if_else c (Fate.Dropped Empty) (if_else d (Fate.Still x) (Fate.Delivered x)))) B
    go true d = refl
    go false true = whole
    go false false = whole

-- WHAT A TURN LEAVES of two buffers: the frame under way after it, and the one that its fate hands out
pub record Leaves (x : Turn) (d A B : List ℕ) : Type 0 where
  pub way : take (fill_of x.track.phase) (paste A x.at d x.len) ≡ take (fill_of x.track.phase) (paste B x.at d x.len)
  pub handed : take (fate_length x.answer.fate) (paste A x.at d x.len) ≡ take (fate_length x.answer.fate) (paste B x.at d x.len)

module _ (o : Opening) (h : Header) (n : ℕ) (d A B : List ℕ) (k : n ≤ length d) (room-a : o.frame ≤ length A) (room-b : o.frame ≤ length B) where
  join-leaves : (r : Run) (e : Ended) (gone : ℕ) → Snug o.frame r.fault r.fill r.bytes → take r.fill A ≡ take r.fill B → Leaves (join_turn o r h n e gone) d A B
  join-leaves r e gone g same = go (ends_of o h)
    where
      j : Run
      j = joined_of o r h n

      within : r.fill ≤ o.frame
      within = snug-within o.frame r.fault r.fill r.bytes g

      after-a : List ℕ
      after-a = paste A r.fill d (written_of (fault_of o r h n) n)

      after-b : List ℕ
      after-b = paste B r.fill d (written_of (fault_of o r h n) n)

      filled : take j.fill after-a ≡ take j.fill after-b
      filled = more (fault_of o r h n) r.fill n d A B (omega (arith, within)) (omega (arith, within)) k same

      snug : Snug o.frame j.fault j.fill j.bytes
      snug = snug-joined o.frame r.fault h.error (clash_of r.stamp h.stamp) (mixed_of r h) (ltb o.frame (r.bytes + n)) r.fill r.bytes n refl g

      go : (c : Bool)
          → Leaves (record { track = record { phase = phase_of c j; gap = false }; answer = record { ended = e; fate = fate_of c j }; gone = gone; bytes = r.bytes + n; at = r.fill; len = written_of (fault_of o r h n) n }) d A B
      go true = record { way = refl; handed = complete-bytes o.frame j.fault j.fill j.bytes j.stamp j.layer j.still after-a after-b snug filled }
      go false = record { way = filled; handed = refl }

  pub begun-leaves : (gap : Bool) (e : Ended) (gone : ℕ) → Leaves (join_turn o (begun_of gap h.fid h.still) h n e gone) d A B
  begun-leaves gap e gone = join-leaves (begun_of gap h.fid h.still) e gone (snug-begun o.frame gap) refl

  pub turn-leaves : (ph : Phase) (gap : Bool) → Fit o.frame ph → take (fill_of ph) A ≡ take (fill_of ph) B → Leaves (turn_by ph o gap h n) d A B
  unfolding if_else
  turn-leaves Fresh gap g e = begun-leaves gap None 0
  turn-leaves (Under r) gap g e = go (same_of r.fid h.fid)
    where
      go : (c : Bool) → Leaves (if_else c (join_turn o r h n None 0) (join_turn o (begun_of gap h.fid h.still) h n (Some (why_of r.fault (turned_why o))) r.bytes)) d A B
      go true = join-leaves r None 0 g e
      go false = begun-leaves gap (Some (why_of r.fault (turned_why o))) r.bytes
  turn-leaves (Past f) gap g e = go (same_of f h.fid)
    where
      go : (c : Bool) → Leaves (if_else c (stray_turn f n) (join_turn o (begun_of gap h.fid h.still) h n None 0)) d A B
      go true = record { way = refl; handed = refl }
      go false = begun-leaves gap None 0

-- a frame that is handed out has no fault, so that its bytes are those written
never : (a b : Bool) → (a && (b && false)) ≡ true → ⊥
never true true e = true≢false (sym e)
never true false e = true≢false (sym e)
never false b e = true≢false (sym e)

pub out-bytes : (o : Opening) (h : Header) (ph : Phase) (gap : Bool) (A B : List ℕ) → Fit o.frame ph → hands_by ph o h ≡ true → take (fill_of ph) A ≡ take (fill_of ph) B
    → take (out_by ph gap).frame.delivery.len A ≡ take (out_by ph gap).frame.delivery.len B
out-bytes o h Fresh gap A B g p e = refl
out-bytes o h (Past f) gap A B g p e = refl
out-bytes o h (Under r) gap A B g p e = go r.fault g p
  where
    go : (q : Fault) → Snug o.frame q r.fill r.bytes → (not (by_eof o) && (not (same_of r.fid h.fid) && ready_of q r.bytes)) ≡ true → take r.bytes A ≡ take r.bytes B
    go None s p = ap (λ (m : ℕ). take m A) (sym s.0) ∙ e ∙ ap (λ (m : ℕ). take m B) s.0
    go (Some w) s p = absurd (never (not (by_eof o)) (not (same_of r.fid h.fid)) p)
