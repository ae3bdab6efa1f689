-- The loops that print: the settings of a stream, and the streams.
use Rattle.std.specs.Prelude.{None, Some}
use mathlib.Core.Path.{◌≡◌, sym, ap, ◌∙◌}
use mathlib.Core.List.{List}
use Prim.Native.Nat.{ℕ, ◌+◌, ◌*◌, ◌≤◌, ◌<◌}
use native.Mathlib.Omega.{arith}
use native.Mathlib.Numerals.{add-one}
use native.Mathlib.Nat.{mul-suc, mul-le-mul_left}
use lib.ListN.{length, take, get_or}
use lib.Seq.{take_all}
use Rattle.text.specs.Put.{Put}
use Rattle.text.specs.Text.{texts}
use Rattle.text.proofs.Texts.{turn}
use Rattle.text.specs.Text.{line_most}
use Rattle.alternate_settings.specs.Inner.{kth_of}
use Rattle.alternate_settings.specs.Holding.{no_setting}
use Rattle.alternate_settings.specs.declared.Setting.{Setting}
use Rattle.alternate_settings.proofs.Order.{kth-at, kth-past}
use Rattle.configuration_text.specs.Texts.{setting_line}

-- the first i of a list are printed, each in at most so many bytes
pub record Printed {A : Type 0} (f : A → List ℕ) (xs : List A) (size most : ℕ) (old : List ℕ) (start i at : ℕ) (buf : List ℕ) : Type 0 where
  pub within : i ≤ most
  pub room : at ≤ start + size * i
  pub put : Put old start (texts f (take i xs)) at buf

module _ {A : Type 0} (f : A → List ℕ) (d : A) (xs : List A) (size most : ℕ) {old : List ℕ} {start : ℕ} where
  pub one_more : (i : ℕ) {at r : ℕ} {buf new : List ℕ} → i < length xs → i < most → Printed f xs size most old start i at buf
      → Put buf at (f (get_or xs i d)) r new → r ≤ at + size → Printed f xs size most old start (i + 1) r new
  one_more i h k p q b = record { within = omega arith; room = omega (arith, p.room, b, mul-suc size i, ap (λ (n : ℕ). size * n) (add-one i)); put = turn f d xs i h p.put q }

  -- the list ends
  pub list-ends : (i : ℕ) {at : ℕ} {buf : List ℕ} → length xs ≤ i → Printed f xs size most old start i at buf → Put old start (texts f (take most xs)) at buf
  list-ends i h p =
      let e : take i xs ≡ take most xs = take_all i xs h ∙ sym (take_all most xs (omega (arith, p.within))) in
      rw e at p.put

  -- the most are printed
  pub most-done : (i : ℕ) {at : ℕ} {buf : List ℕ} → most ≤ i → Printed f xs size most old start i at buf → Put old start (texts f (take most xs)) at buf
  most-done i h p = let e : i ≡ most = omega (arith, p.within) in rw e at p.put

  pub room-left : (i : ℕ) {at : ℕ} {buf : List ℕ} → Printed f xs size most old start i at buf → at ≤ start + size * most
  room-left i p = let m : size * i ≤ size * most = mul-le-mul_left size p.within in omega (arith, p.room)

-- ---- settings, one call for each
module _ (l : List Setting) {old : List ℕ} {start : ℕ} (i : ℕ) where
  pub setting-more : {at r : ℕ} {buf new : List ℕ} (x : Setting) → i < 32 → kth_of l i ≡ Some x → Printed setting_line l line_most 32 old start i at buf
      → Put buf at (setting_line x) r new → r ≤ at + line_most → Printed setting_line l line_most 32 old start (i + 1) r new
  setting-more x h e p q b = let k = (kth-at l i x).0 e in one_more setting_line no_setting l line_most 32 i k.0 h p (rw k.1 q) b

  pub settings-end : {at : ℕ} {buf : List ℕ} → kth_of l i ≡ None → Printed setting_line l line_most 32 old start i at buf
      → Put old start (texts setting_line (take 32 l)) at buf × (at ≤ start + line_most * 32)
  settings-end e p = (list-ends setting_line no_setting l line_most 32 i ((kth-past l i).0 e) p, room-left setting_line no_setting l line_most 32 i p)

  pub settings-full : {at : ℕ} {buf : List ℕ} → 32 ≤ i → Printed setting_line l line_most 32 old start i at buf
      → Put old start (texts setting_line (take 32 l)) at buf × (at ≤ start + line_most * 32)
  settings-full h p = (most-done setting_line no_setting l line_most 32 i h p, room-left setting_line no_setting l line_most 32 i p)

-- ---- the first n of a table of 8
pub record Streamed {A : Type 0} (f : A → List ℕ) (xs : List A) (size n : ℕ) (old : List ℕ) (start i at : ℕ) (buf : List ℕ) : Type 0 where
  pub table : length xs ≡ 8
  pub below : i ≤ n
  pub printed : Printed f xs size 8 old start i at buf

module _ {A : Type 0} (f : A → List ℕ) (d : A) (xs : List A) (size n : ℕ) {old : List ℕ} {start : ℕ} where
  pub stream-more : (i : ℕ) {at r : ℕ} {buf new : List ℕ} → i < n → i < 8 → Streamed f xs size n old start i at buf
      → Put buf at (f (get_or xs i d)) r new → r ≤ at + size → Streamed f xs size n old start (i + 1) r new
  stream-more i h k p q b = record { table = p.table; below = omega arith; printed = one_more f d xs size 8 i (omega (arith, p.table)) k p.printed q b }

  pub all-used : (i : ℕ) {at : ℕ} {buf : List ℕ} → n ≤ i → Streamed f xs size n old start i at buf → Put old start (texts f (take n xs)) at buf
  all-used i h p = let e : i ≡ n = omega (arith, p.below) in rw e at p.printed.put

  pub all-places : (i : ℕ) {at : ℕ} {buf : List ℕ} → 8 ≤ i → Streamed f xs size n old start i at buf → Put old start (texts f (take n xs)) at buf
  all-places i h p =
      let e : take i xs ≡ take n xs = take_all i xs (omega (arith, p.table)) ∙ sym (take_all n xs (omega (arith, p.table, p.below))) in
      rw e at p.printed.put
