-- A subtype number by cases; and no descriptor that has its kind's shape is shorter than this.
use Prim.Native.Nat.{ℕ, zero, suc, ◌+◌, ◌≤◌, ◌<◌}
use mathlib.Core.Path.{◌≡◌, refl, sym}
use mathlib.Core.List.{List}
use mathlib.Core.Bool.{true, true≢false}
use lib.ListN.{length, get_or}
use borrow.Author.Tests.{leb-true, eqb-true}
use native.Mathlib.Omega.{arith}
use Rattle.le.specs.Le.{byte}
use Rattle.rules.proofs.Rows.{and_first}
use Rattle.entities.specs.Revisions.{says_of}
use Rattle.entities.specs.declared.Revision.{Revision}
use Rattle.control_rules.specs.Descriptors.{Kind, header, input, output, selector, processing, extension, encoding, unknown, revision_of, kind_of, len_at, shape, is_entity, fixed_at, counted_at, sized_at, input_at, extension_at, Shaped}
use Rattle.control_rules.proofs.Shapes.{unit-long}

pub by_kind : (P : ℕ → Kind → Type 0) → P 1 header → P 2 input → P 3 output → P 4 selector → P 5 processing → P 6 extension → P 7 encoding → P 0 unknown → ((n : ℕ) → 7 < n → P n unknown) → (x : ℕ) → P x (kind_of x)
unfolding kind_of
by_kind P a b c d e f g z h zero = z
by_kind P a b c d e f g z h (suc zero) = a
by_kind P a b c d e f g z h (suc (suc zero)) = b
by_kind P a b c d e f g z h (suc (suc (suc zero))) = c
by_kind P a b c d e f g z h (suc (suc (suc (suc zero)))) = d
by_kind P a b c d e f g z h (suc (suc (suc (suc (suc zero))))) = e
by_kind P a b c d e f g z h (suc (suc (suc (suc (suc (suc zero)))))) = f
by_kind P a b c d e f g z h (suc (suc (suc (suc (suc (suc (suc zero))))))) = g
by_kind P a b c d e f g z h (suc (suc (suc (suc (suc (suc (suc (suc n)))))))) = h (suc (suc (suc (suc (suc (suc (suc (suc n)))))))) (omega arith)

unfoldable pub shortest : Kind → ℕ
shortest header = 12
shortest input = 8
shortest output = 9
shortest selector = 6
shortest processing = 8
shortest extension = 24
shortest encoding = 13
shortest unknown = 3

shape-min : (v : Revision) (k : Kind) (s : List ℕ) (o : ℕ) → 3 ≤ len_at s o → shape v k s o ≡ true → shortest k ≤ len_at s o
unfolding shape shortest fixed_at counted_at sized_at input_at extension_at
shape-min v header s o l h = omega (arith, eqb-true (len_at s o) (12 + byte s o 11) h)
shape-min v input s o l h = leb-true 8 (len_at s o) (and_first _ _ h)
shape-min v output s o l h = leb-true 9 (len_at s o) h
shape-min v selector s o l h = omega (arith, eqb-true (len_at s o) (6 + byte s o 4) h)
shape-min v processing s o l h = omega (arith, unit-long v (says_of v) refl, eqb-true (len_at s o) ((says_of v).unit + byte s o 7) (and_first _ _ h))
shape-min v extension s o l h = omega (arith, eqb-true (len_at s o) (24 + byte s o 21 + get_or s (o + 22 + byte s o 21) 0) h)
shape-min v encoding s o l h = omega (arith, eqb-true (len_at s o) 13 (and_first _ _ h))
shape-min v unknown s o l h = l

pub room : (k : Kind) (s : List ℕ) (o : ℕ) → Shaped k s o → o + shortest k ≤ length s
room k s o h = omega (arith, h.inside, shape-min (revision_of s) k s o h.long h.right)

-- an entity has an ID
pub entity-long : (k : Kind) → is_entity k ≡ true → 3 < shortest k
unfolding is_entity shortest
entity-long header h = omega arith
entity-long input h = omega arith
entity-long output h = omega arith
entity-long selector h = omega arith
entity-long processing h = omega arith
entity-long extension h = omega arith
entity-long encoding h = omega arith
entity-long unknown h = absurd (true≢false (sym h))

pub id-room : (k : Kind) (s : List ℕ) (o : ℕ) → Shaped k s o → is_entity k ≡ true → o + 3 < length s
id-room k s o h e = omega (arith, room k s o h, entity-long k e)

pub sub-room : (k : Kind) (s : List ℕ) (o : ℕ) → Shaped k s o → o + 2 < length s
sub-room k s o h = omega (arith, h.inside, h.long)
