-- What a transfer is read as: idle, unreadable by the first broken rule of 61 to 67, or readable, each exactly when.
use Prim.Native.Nat.{ℕ, zero, suc, ◌+◌, ◌≤◌, ◌<◌}
use mathlib.Core.Path.{◌≡◌, refl, sym, ◌∙◌}
use mathlib.Core.List.{List, [], ◌∷◌}
use mathlib.Core.Bool.{Bool, true, false, not, true≢false}
use mathlib.Core.Logic.{◌↔◌}
use native.Mathlib.Omega.{arith}
use lib.ListN.{length, get_or}
use borrow.Author.Tests.{ltb-false}
use Rattle.rules.specs.IfElse.{if_else}
use Rattle.rules.specs.Numbered.{first_row, NoneOf}
use Rattle.rules.proofs.Rows.{Numbered, none_row, row-none, given-exactly}
use Rattle.session_rules.specs.Layouts.{header_layout}
use Rattle.session_rules.specs.Transfer.{flag_of, flags_at, has_layer, layer_place, need_of, stamp_missing, rows_by, transfer_rows, header_by, header_of, sorted, sorted_by, reading_of, FirstBroken, NoneBroken}
use Rattle.sizes.specs.declared.HeaderKind.{HeaderKind}
use Rattle.sizes.specs.declared.Opening.{Opening}
use Rattle.session_rules.specs.declared.Layout.{Layout}
use Rattle.session_rules.specs.declared.Header.{Header}
use Rattle.session_rules.specs.declared.Reading.{Reading}
use Rattle.session_rules.specs.declared.Reading.TheVariants.{Idle, Unreadable, Readable}

-- the rows have numbers
rows-numbered : (l : Layout) (payload : ℕ) (t : List ℕ) → Numbered (rows_by l payload t)
unfolding rows_by
rows-numbered l payload t = (omega arith, (omega arith, (omega arith, (omega arith, (omega arith, (omega arith, (omega arith, tt)))))))

-- ---- what the reader answers
pub idle-here : (o : Opening) (t : List ℕ) → length t ≡ 0 → Idle ≡ reading_of o t
unfolding reading_of
idle-here o [] e = refl
idle-here o (b ∷ t) e = absurd (omega arith)

-- a transfer of a byte or more is sorted by its first broken rule
pub sorts : (o : Opening) (t : List ℕ) → 0 < length t → reading_of o t ≡ sorted (first_row (transfer_rows o t)) (header_of o t)
unfolding reading_of
sorts o [] l = absurd (omega arith)
sorts o (b ∷ t) l = refl

-- by the row of its kind
pub read-kind : (o : Opening) (t : List ℕ) (k : HeaderKind) (r : Reading) → 0 < length t → o.kind ≡ k → r ≡ sorted_by (header_layout k) o.payload t → r ≡ reading_of o t
read-kind o t k r l e q = rw (← e) at (q) ∙ sym (sorts o t l)

pub unreadable-here : (n k : ℕ) (h : Header) → n ≡ k → (n ≡ 0 → ⊥) → Unreadable n ≡ sorted k h
unreadable-here zero k h e z = absurd (z refl)
unreadable-here (suc n) k h e z = rw (← e)

pub readable-here : (n k : ℕ) (g h : Header) → n ≡ k → n ≡ 0 → g ≡ h → Readable g ≡ sorted k h
readable-here n k g h e z q = rw (← e, z, q)

-- ---- a transfer that breaks no rule

-- its header lies within it, and is as long as what its flags say it holds
pub record FitsBy (l : Layout) (payload : ℕ) (t : List ℕ) (len : ℕ) : Type 0 where
  pub sized : length t ≤ payload
  pub least : l.least ≤ len
  pub inside : len ≤ length t
  pub holds : need_of l (flags_at l t) ≤ len
  pub ends : flag_of (flags_at l t) l.ends ≡ true
  pub timed : stamp_missing l (flags_at l t) ≡ false

was-set : (b : Bool) → not b ≡ false → b ≡ true
was-set true e = refl
was-set false e = absurd (true≢false e)

pub fits_by : (l : Layout) (payload : ℕ) (t : List ℕ) → NoneOf (rows_by l payload t) → FitsBy l payload t (get_or t 0 0)
unfolding rows_by
fits_by l payload t d =
    record {
      sized = ltb-false payload (length t) d.1.0;
      least = ltb-false (get_or t 0 0) l.least d.1.1.0;
      inside = ltb-false (length t) (get_or t 0 0) d.1.1.1.0;
      holds = ltb-false (get_or t 0 0) (need_of l (flags_at l t)) d.1.1.1.1.0;
      ends = was-set _ d.1.1.1.1.1.0;
      timed = d.1.1.1.1.1.1.0;
    }

abbrev pub Fits : Opening → List ℕ → ℕ → Type 0
Fits o t len = FitsBy (header_layout o.kind) o.payload t len

-- there is room for the header's fields
pub header-room : (l : Layout) (payload : ℕ) (t : List ℕ) (n : ℕ) → n ≡ first_row (rows_by l payload t) → n ≡ 0 →
    (l.least ≤ length t) × (need_of l (flags_at l t) ≤ length t)
header-room l payload t n e z =
    let f = fits_by l payload t (row-none (rows_by l payload t) (rows-numbered l payload t) (sym e ∙ z)) in
    (omega arith, omega arith)

-- a header that has a stamp has four bytes for it after its flags, and one that has a layer two at its place
pub stamp-room : (l : Layout) (flags : ℕ) → flag_of flags 2 ≡ true → l.least + 4 ≤ need_of l flags
unfolding need_of layer_place if_else
stamp-room l flags p = rw p (go l.least (if_else (flag_of flags 3) 6 0) (if_else (has_layer l flags) 2 0))
  where
    go : (a n m : ℕ) → a + 4 ≤ a + 4 + n + m
    go a n m = omega arith

pub layer-room : (l : Layout) (flags : ℕ) → has_layer l flags ≡ true → layer_place l flags + 2 ≤ need_of l flags
unfolding need_of if_else
layer-room l flags p = rw p (go (layer_place l flags))
  where
    go : (a : ℕ) → a + 2 ≤ a + 2
    go a = omega arith

-- ---- EXACTLY WHEN
idle-not-unreadable : (k : ℕ) → Idle ≡ Unreadable k → ⊥
idle-not-unreadable k e = let z : ◌≡◌ {A = ℕ} 0 1 = cc in omega arith

idle-not-readable : (h : Header) → Idle ≡ Readable h → ⊥
idle-not-readable h e = let z : ◌≡◌ {A = ℕ} 0 1 = cc in omega arith

not-idle : (n : ℕ) (h : Header) → sorted n h ≡ Idle → ⊥
not-idle zero h e = idle-not-readable h (sym e)
not-idle (suc n) h e = idle-not-unreadable (suc n) (sym e)

is_number : (n k : ℕ) (h : Header) → sorted n h ≡ Unreadable k → (n ≡ k) × (0 < k)
is_number zero k h e = let z : ◌≡◌ {A = ℕ} 0 1 = cc in absurd (omega arith)
is_number (suc n) k h e = let q : suc n ≡ k = cc in (q, omega arith)

is-header : (n : ℕ) (g h : Header) → sorted n g ≡ Readable h → (n ≡ 0) × (h ≡ g)
is-header zero g h e = (refl, cc)
is-header (suc n) g h e = let z : ◌≡◌ {A = ℕ} 0 1 = cc in absurd (omega arith)

pub idle-exactly : (o : Opening) (t : List ℕ) → (reading_of o t ≡ Idle) ↔ (t ≡ [])
unfolding reading_of
idle-exactly o [] = (λ e. refl, λ e. refl)
idle-exactly o (b ∷ t) = (
  λ e. absurd (not-idle (first_row (transfer_rows o (b ∷ t))) (header_of o (b ∷ t)) e),
  λ e. let z : ◌≡◌ {A = ℕ} 0 1 = cc in absurd (omega arith),
)

module _ (o : Opening) where
  numbered : (t : List ℕ) → Numbered (transfer_rows o t)
  numbered t = rows-numbered (header_layout o.kind) o.payload t

  to-broken : (t : List ℕ) (k : ℕ) → reading_of o t ≡ Unreadable k → FirstBroken o t k
  unfolding reading_of
  to-broken [] k e = absurd (idle-not-unreadable k e)
  to-broken (b ∷ t) k e =
      record {
        bytes = omega arith;
        broken = (given-exactly (transfer_rows o (b ∷ t)) (numbered (b ∷ t)) k).1 (is_number (first_row (transfer_rows o (b ∷ t))) k (header_of o (b ∷ t)) e);
      }

  from-broken : (t : List ℕ) (k : ℕ) → FirstBroken o t k → reading_of o t ≡ Unreadable k
  from-broken t k f =
      let l : 0 < length t = f.bytes in
      let g = (given-exactly (transfer_rows o t) (numbered t) k).0 f.broken in
      sorts o t l ∙ sym (unreadable-here k (first_row (transfer_rows o t)) (header_of o t) (sym g.0) (λ z. omega (arith, g.1)))

  -- unreadable by k: the transfer is not empty, and k is the first broken rule of 61 to 67
  pub unreadable-exactly : (t : List ℕ) (k : ℕ) → (reading_of o t ≡ Unreadable k) ↔ FirstBroken o t k
  unreadable-exactly t k = (to-broken t k, from-broken t k)

  to_whole : (t : List ℕ) (h : Header) → reading_of o t ≡ Readable h → NoneBroken o t h
  unfolding reading_of
  to_whole [] h e = absurd (idle-not-readable h e)
  to_whole (b ∷ t) h e =
      let p = is-header (first_row (transfer_rows o (b ∷ t))) (header_of o (b ∷ t)) h e in
      record { bytes = omega arith; whole = row-none (transfer_rows o (b ∷ t)) (numbered (b ∷ t)) p.0; header = p.1 }

  from-whole : (t : List ℕ) (h : Header) → NoneBroken o t h → reading_of o t ≡ Readable h
  from-whole t h w =
      sorts o t w.bytes ∙ sym (readable-here 0 (first_row (transfer_rows o t)) h (header_of o t) (sym (none_row (transfer_rows o t) w.whole)) refl w.header)

  -- readable: the transfer is not empty, and none of 61 to 67 is broken
  pub readable-exactly : (t : List ℕ) (h : Header) → (reading_of o t ≡ Readable h) ↔ NoneBroken o t h
  readable-exactly t h = (to_whole t h, from-whole t h)

  -- a readable header lies within its transfer
  pub readable-fits : (t : List ℕ) (h : Header) → reading_of o t ≡ Readable h → Fits o t h.len
  unfolding header_by
  readable-fits t h e = let w = to_whole t h e in rw w.header (fits_by (header_layout o.kind) o.payload t w.whole)
