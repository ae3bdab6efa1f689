-- The loops: the pieces of a template, and a template for each thing of a row.
use mathlib.Core.Path.{◌≡◌, refl, sym, subst, ◌∙◌}
use mathlib.Core.Bool.{Bool, true, false}
use mathlib.Core.List.{List, [], ◌++◌}
use Prim.Native.Nat.{ℕ, zero, suc, ◌+◌, ◌-◌, ◌*◌, ◌≤◌, ◌<◌}
use native.Mathlib.Omega.{arith}
use borrow.Author.Tests.{lt-ltb, le-ltb, ltb-false}
use lib.Dec.{T, ltb}
use lib.ListN.{length}
use Rattle.rules.specs.IfElse.{if_else}
use Rattle.text.specs.Put.{Put}
use Rattle.templates.specs.Template.{is_field, length_at, piece_at, render_from, rendered, listed}
use Rattle.templates.proofs.Going.{Going, begin, more, over}

-- ---- a piece of a template lies in it
by_field : (b c : Bool) → if_else b false c ≡ true → b ≡ false
unfolding if_else
by_field false c e = refl
by_field true c e = absurd (subst T (sym e) tt)

field-whole : (t : List ℕ) (i : ℕ) → i < length t → is_field t i ≡ true → i + 4 ≤ length t
unfolding is_field
field-whole t i h e = omega (arith, ltb-false (length t - i) 4 (by_field (ltb (length t - i) 4) _ e))

pub whole-field : (t : List ℕ) (i : ℕ) (b : Bool) → i < length t → b ≡ is_field t i → b ≡ true → i + 4 ≤ length t
whole-field t i b h p e = field-whole t i h (sym p ∙ e)

length-by : (t : List ℕ) (i : ℕ) → i < length t → (b : Bool) → is_field t i ≡ b → (1 ≤ if_else b 4 1) × (i + if_else b 4 1 ≤ length t)
unfolding if_else
length-by t i h true e = (omega arith, field-whole t i h e)
length-by t i h false e = (omega arith, omega arith)

length-within : (t : List ℕ) (i : ℕ) → i < length t → (1 ≤ length_at t i) × (i + length_at t i ≤ length t)
unfolding length_at
length-within t i h = length-by t i h (is_field t i) refl

-- the next piece begins in the template, or at its end, and nearer to it
pub inside : (t : List ℕ) (i l : ℕ) → i < length t → l ≡ length_at t i → i + l ≤ length t
inside t i l h e = rw e (length-within t i h).1

pub nearer : (t : List ℕ) (i l : ℕ) → i < length t → l ≡ length_at t i → length t - (i + l) < length t - i
nearer t i l h e = omega (arith, (length-within t i h).0)

-- ---- the pieces of a template: i of its bytes are rendered
pub record Rendering (s : List ℕ) (o k : ℕ) (t old : List ℕ) (start i at : ℕ) (buf : List ℕ) : Type 0 where
  pub within : i ≤ length t
  pub room : at ≤ start + 6 * i
  pub fuel : ℕ
  pub enough : length t ≤ i + fuel
  pub size : length buf ≡ length old
  pub going : Going old start (rendered s o k t) at buf (render_from fuel s o k t i)

pub start-rendering : (s : List ℕ) (o k : ℕ) (t old : List ℕ) (start : ℕ) → start ≤ length old → Rendering s o k t old start 0 start old
start-rendering s o k t old start h =
    record { within = omega arith; room = omega arith; fuel = length t; enough = omega arith; size = refl; going = begin old start (rendered s o k t) h }

one_piece : (n : ℕ) (s : List ℕ) (o k : ℕ) (t : List ℕ) (i : ℕ) → i < length t → render_from (suc n) s o k t i ≡ piece_at s o k t i ++ render_from n s o k t (i + length_at t i)
unfolding render_from if_else
one_piece n s o k t i h = rw (lt-ltb i (length t) h)

no-piece : (n : ℕ) (s : List ℕ) (o k : ℕ) (t : List ℕ) (i : ℕ) → length t ≤ i → render_from n s o k t i ≡ []
unfolding render_from if_else
no-piece zero s o k t i h = refl
no-piece (suc n) s o k t i h = rw (le-ltb i (length t) h)

module _ {s : List ℕ} {o k : ℕ} {t old : List ℕ} {start i at : ℕ} {buf : List ℕ} where
  pub piece-fits : Rendering s o k t old start i at buf → i < length t → start + 6 * length t ≤ length old → at + 6 * length_at t i ≤ length buf
  piece-fits p h r = omega (arith, p.room, p.size, (length-within t i h).1)

  by-fuel : (n : ℕ) {r : ℕ} {new : List ℕ} → length t ≤ i + n → at ≤ start + 6 * i → length buf ≡ length old → i < length t → Going old start (rendered s o k t) at buf (render_from n s o k t i)
      → Put buf at (piece_at s o k t i) r new → r ≤ at + 6 * length_at t i → Rendering s o k t old start (i + length_at t i) r new
  by-fuel zero e m z h g q b = absurd (omega arith)
  by-fuel (suc n) e m z h g q b =
      record {
        within = (length-within t i h).1;
        room = omega arith;
        fuel = n;
        enough = omega (arith, (length-within t i h).0);
        size = q.size ∙ z;
        going = more (piece_at s o k t i) (render_from n s o k t (i + length_at t i)) (one_piece n s o k t i h) g q;
      }

  pub piece-more : {r l : ℕ} {new : List ℕ} → Rendering s o k t old start i at buf → i < length t → Put buf at (piece_at s o k t i) r new → r ≤ at + 6 * length_at t i → l ≡ length_at t i
      → Rendering s o k t old start (i + l) r new
  piece-more p h q b e = rw e (by-fuel p.fuel p.enough p.room p.size h p.going q b)

  pub all-rendered : Rendering s o k t old start i at buf → length t ≤ i → Put old start (rendered s o k t) at buf × (at ≤ start + 6 * length t)
  all-rendered p h = (over (no-piece p.fuel s o k t i h) p.going, omega (arith, p.room, p.within))

-- ---- a template for each thing of a row: i of n are done, the next at `place`
pub record Listing (s : List ℕ) (o step : ℕ) (t old : List ℕ) (start n k i at place : ℕ) (buf : List ℕ) : Type 0 where
  pub within : i ≤ n
  pub few : n < 256
  pub room : at ≤ start + 384 * i
  pub low : place ≤ 256 + 4 * i
  pub size : length buf ≡ length old
  pub going : Going old start (listed s o step t n k) at buf (listed s o step t (n - i) place)

pub start-listing : (s : List ℕ) (o step : ℕ) (t old : List ℕ) (start n k : ℕ) → n < 256 → k < 256 → start ≤ length old → Listing s o step t old start n k 0 start k old
start-listing s o step t old start n k f l h =
    let e : n - 0 ≡ n = omega arith in
    record { within = omega arith; few = f; room = omega arith; low = omega arith; size = refl; going = rw e (begin old start (listed s o step t n k) h) }

one-thing : (s : List ℕ) (o step : ℕ) (t : List ℕ) (left rest place : ℕ) → left ≡ suc rest → listed s o step t left place ≡ rendered s o place t ++ listed s o step t rest (place + step)
unfolding listed
one-thing s o step t left rest place e = rw e

no-thing : (s : List ℕ) (o step : ℕ) (t : List ℕ) (left place : ℕ) → left ≡ 0 → listed s o step t left place ≡ []
unfolding listed
no-thing s o step t left place e = rw e

module _ {s : List ℕ} {o step : ℕ} {t old : List ℕ} {start n k i at place : ℕ} {buf : List ℕ} where
  pub thing-more : {r : ℕ} {new : List ℕ} → i < n → step < 5 → length t ≤ 64 → Listing s o step t old start n k i at place buf
      → Put buf at (rendered s o place t) r new → r ≤ at + 6 * length t → Listing s o step t old start n k (i + 1) r (place + step) new
  thing-more z f m p q b =
      record {
        within = omega arith;
        few = p.few;
        room = omega (arith, p.room);
        low = omega (arith, p.low);
        size = q.size ∙ p.size;
        going = more (rendered s o place t) (listed s o step t (n - (i + 1)) (place + step)) (one-thing s o step t (n - i) (n - (i + 1)) place (omega arith)) p.going q;
      }

  pub all_listed : n ≤ i → Listing s o step t old start n k i at place buf → Put old start (listed s o step t n k) at buf × (at ≤ start + 97920)
  all_listed h p = (over (no-thing s o step t (n - i) place (omega arith)) p.going, omega (arith, p.room, p.within, p.few))
