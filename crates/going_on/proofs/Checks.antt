-- What the tests on the bytes say, one law for each way through the code.
use Rattle.std.specs.Prelude.{None, Some, is_some}
use Rattle.session_rules.specs.Options.{Fault, Stamp}
use Prim.Native.Nat.{ℕ, ◌+◌, ◌-◌, ◌≤◌, ◌<◌}
use mathlib.Core.Path.{◌≡◌, sym, ◌∙◌}
use mathlib.Core.Bool.{Bool, true, false, not, ◌&&◌}
use mathlib.Core.List.{List}
use native.Mathlib.Omega.{arith}
use lib.Bits.{bit_and}
use lib.ListN.{length}
use lib.Dec.{leb, ltb, eqb}
use borrow.Author.Tests.{leb-true, ltb-false, le-leb, lt-leb, eqb-true, eq-eqb, ne_eqb, not-true, not-false}
use Rattle.rules.proofs.Rows.{and_first, and_second}
use Rattle.sizes.specs.declared.HeaderKind.TheVariants.{Old}
use Rattle.sizes.specs.declared.Opening.{Opening}
use Rattle.session_rules.specs.declared.Run.{Run}
use Rattle.session_rules.specs.Layouts.{header_layout}
use Rattle.session_rules.specs.Transfer.{length_at, need_of, stamp_of}
use Rattle.session_rules.specs.OldKind.{old_flags}
use Rattle.session_rules.specs.Turns.{clash_of, earlier_of}
use Rattle.going_on.specs.GoingOn.{is_sound}
use Rattle.going_on.specs.Bytes.{is_old, compared, marks_of, is_marked, data_of, bytes_go_on}

-- ---- one test and another
pub and-out : (a b : Bool) → a ≡ false → false ≡ (a && b)
and-out a b e = rw e

pub and-on : (a b x : Bool) → a ≡ true → x ≡ b → x ≡ (a && b)
and-on a b x e q = rw e q

-- by a test that a callee answered
pub said-out : (s a b : Bool) → s ≡ a → not s ≡ true → false ≡ (a && b)
said-out s a b e p = and-out a b (sym e ∙ not-true s p)

pub said-on : (s a b x : Bool) → s ≡ a → not s ≡ false → x ≡ b → x ≡ (a && b)
said-on s a b x e p q = and-on a b x (sym e ∙ not-false s p) q

pub not-said : (s a : Bool) → s ≡ a → not s ≡ not a
not-said s a e = rw e

pub ruleset asks = (and-out, and-on, said-out, said-on, not-said, le-leb, lt-leb, eq-eqb, ne_eqb)

-- ---- a header with the marks
pub record Marked (fid still : Bool) (payload : ℕ) (t : List ℕ) : Type 0 where
  pub two : 2 ≤ length t
  pub short : length t ≤ payload
  pub marks : bit_and (old_flags t) compared ≡ marks_of fid still
  pub inside : length_at t ≤ length t
  pub holds : need_of (header_layout Old) (old_flags t) ≤ length_at t

pub marked : (fid still : Bool) (payload : ℕ) (t : List ℕ) → is_marked fid still payload t ≡ true → Marked fid still payload t
unfolding is_marked
marked fid still payload t e0 =
    let e1 = and_second (leb 2 (length t)) _ e0 in
    let e2 = and_second (leb (length t) payload) _ e1 in
    let e3 = and_second (eqb (bit_and (old_flags t) compared) (marks_of fid still)) _ e2 in
    let e4 = and_second (leb (length_at t) (length t)) _ e3 in
    record {
      two = leb-true 2 (length t) (and_first _ _ e0);
      short = leb-true (length t) payload (and_first _ _ e1);
      marks = eqb-true (bit_and (old_flags t) compared) (marks_of fid still) (and_first _ _ e2);
      inside = leb-true (length_at t) (length t) (and_first _ _ e3);
      holds = ltb-false (length_at t) (need_of (header_layout Old) (old_flags t)) (not-true _ e4);
    }

module _ (fid still : Bool) (payload : ℕ) (t : List ℕ) (two : 2 ≤ length t) (short : length t ≤ payload) (m : ℕ) (e : m ≡ marks_of fid still) where
  sized : (x : Bool) →
      x ≡ (eqb (bit_and (old_flags t) compared) (marks_of fid still)
      && (leb (length_at t) (length t) && not (ltb (length_at t) (need_of (header_layout Old) (old_flags t))))) → x ≡ is_marked fid still payload t
  unfolding is_marked
  sized x q = and-on _ _ x (le-leb 2 (length t) two) (and-on _ _ x (le-leb (length t) payload short) q)

  pub other-marks : (bit_and (old_flags t) compared ≡ m → ⊥) → false ≡ is_marked fid still payload t
  other-marks n = sized false (and-out _ _ (ne_eqb (bit_and (old_flags t) compared) (marks_of fid still) (λ q. n (q ∙ sym e))))

  module _ (q : bit_and (old_flags t) compared ≡ m) (from : ℕ) (f : from ≡ length_at t) where
    same-marks : eqb (bit_and (old_flags t) compared) (marks_of fid still) ≡ true
    same-marks = eq-eqb (bit_and (old_flags t) compared) (marks_of fid still) (q ∙ e)

    pub past_end : length t < from → false ≡ is_marked fid still payload t
    past_end l = sized false (and-on _ _ false same-marks (and-out _ _ (lt-leb (length_at t) (length t) (omega arith))))

    pub within-transfer : (x : Bool) → from ≤ length t → x ≡ ltb from (need_of (header_layout Old) (old_flags t)) → not x ≡ is_marked fid still payload t
    within-transfer x l p =
        sized (not x) (and-on _ _ (not x) same-marks (and-on _ _ (not x) (le-leb (length_at t) (length t) (omega arith)) (not-said x (ltb (length_at t) (need_of (header_layout Old) (old_flags t))) (rw f at p))))

pub said-marked : (s fid still : Bool) (payload : ℕ) (t : List ℕ) → s ≡ is_marked fid still payload t → not s ≡ false → Marked fid still payload t
said-marked s fid still payload t e n = marked fid still payload t (sym e ∙ not-false s n)

-- ---- the frame goes on, after the tests of its header
sound-none : (f : Fault) (s : Bool) → s ≡ is_some f → not s ≡ is_sound f
sound-none None s e = rw e
sound-none (Some w) s e = rw e

twice-not : (s : Bool) → s ≡ false → not (not s) ≡ false
twice-not s e = rw e

module _ (o : Opening) (r : Run) (t : List ℕ) (a s : Bool) (p : a ≡ is_old o.kind) (old : not a ≡ false) (q : s ≡ is_some r.fault) where
  pub faulted : s ≡ true → false ≡ bytes_go_on o r t
  unfolding bytes_go_on
  faulted y = said-on a _ _ false p old (and-out (is_sound r.fault) _ (sym (sound-none r.fault s q) ∙ rw y))

  pub unmarked : s ≡ false → (m : Bool) → m ≡ is_marked r.fid r.still o.payload t → not m ≡ true → false ≡ bytes_go_on o r t
  unfolding bytes_go_on
  unmarked n m e h = said-on a _ _ false p old (said-on (not s) _ _ false (sound-none r.fault s q) (twice-not s n) (said-out m _ _ e h))

module _ (o : Opening) (r : Run) (t : List ℕ) (a s m : Bool) (p : a ≡ is_old o.kind) (old : not a ≡ false) (q : s ≡ is_some r.fault) (sound : s ≡ false)
    (e : m ≡ is_marked r.fid r.still o.payload t) (same : not m ≡ false) where
  tested : (x : Bool) →
      x ≡ (leb (r.fill + data_of t) o.frame && not (clash_of r.stamp (stamp_of (header_layout Old) t (old_flags t)))) → x ≡ bytes_go_on o r t
  unfolding bytes_go_on
  tested x y = said-on a _ _ x p old (said-on (not s) _ _ x (sound-none r.fault s q) (twice-not s sound) (said-on m _ _ x e same y))

  pub overfilled : o.frame < r.fill → false ≡ bytes_go_on o r t
  overfilled h = tested false (and-out _ _ (lt-leb (r.fill + data_of t) o.frame (omega arith)))

  module _ (from : ℕ) (f : from ≡ length_at t) (filled : r.fill ≤ o.frame) where
    pub no_room : o.frame - r.fill < length t - from → false ≡ bytes_go_on o r t
    no_room h = tested false (and-out _ _ (lt-leb (r.fill + data_of t) o.frame (omega arith)))

    pub by-stamp : length t - from ≤ o.frame - r.fill → (x : Bool) → x ≡ not (clash_of r.stamp (stamp_of (header_layout Old) t (old_flags t))) → x ≡ bytes_go_on o r t
    by-stamp h x y = tested x (and-on _ _ x (le-leb (r.fill + data_of t) o.frame (omega arith)) y)

-- ---- the stamps
module _ (a b c : Stamp) (e : c ≡ b) where
  pub clash-said : (x : Bool) → x ≡ clash_of a c → not x ≡ not (clash_of a b)
  clash-said x p = rw (p, e)

  pub absent-earlier : a ≡ None → c ≡ earlier_of a b
  absent-earlier n = rw n e
