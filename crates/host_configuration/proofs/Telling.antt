-- What is told of a setting, of a pick and of a block, part by part.
use Rattle.std.specs.Prelude.{Option, Some}
use Rattle.rules.specs.Verdicts.{Verdict, accept}
use Prim.Native.Nat.{ℕ, zero, suc, ◌-◌, ◌<◌}
use mathlib.Core.Path.{◌≡◌, refl}
use mathlib.Core.List.{List}
use lib.ListN.{length, take}
use native.Mathlib.Omega.{arith}
use Rattle.interfaces.specs.Limits.{no_stream}
use Rattle.interfaces.specs.declared.Block.{Block}
use Rattle.interfaces.specs.declared.Stream.{Stream}
use Rattle.alternate_settings.specs.declared.Setting.{Setting}
use Rattle.picking.specs.Inner.{PickIs}
use Rattle.picking.specs.declared.Picked.{Picked}
use Rattle.host_told.specs.Told.{number_of, offset_of, kth}
use Rattle.host_told.proofs.Kth.{is-there}
use Rattle.host_configuration.specs.Told.{no_block, control_words, stream_words, there_of, part_there, part_at, block_there, block_at, setting_told}
use Rattle.host_configuration.specs.Questions.{PickAnswer}

pub setting-by : (c : Option Setting) (x : Setting) → c ≡ Some x → record { there = 1; number = x.number; zero = 0; bytes = x.bytes } ≡ setting_told c
setting-by c x e = rw e

pub picked-by : (s : List ℕ) (i p : ℕ) (x : Picked) → PickIs s i p x → (n o : ℕ) → n ≡ number_of x.verdict → o ≡ offset_of x.verdict
    → PickAnswer s i p (record { number = n; setting = x.setting.number; bytes = x.setting.bytes; offset = o })
picked-by s i p x h n o e f = record { answer = x; read = h; same = rw (e, f) }

-- ---- a block
pub there-accepted : (v : Verdict) (l : List Stream) (k : ℕ) → v ≡ accept → (r : ℕ) → r ≡ part_there l k → r ≡ block_there v l k
there-accepted v l k e r f = rw e f

pub at-accepted : (v : Verdict) (b : Block) (l : List Stream) (k : ℕ) → v ≡ accept → (w : List ℕ) → w ≡ part_at b l k → w ≡ block_at v b l k
at-accepted v b l k e w f = rw e f

pub there-first : (l : List Stream) (k : ℕ) → k ≡ 0 → 1 ≡ part_there l k
there-first l k e = rw e

pub at_first : (b : Block) (l : List Stream) (k : ℕ) → k ≡ 0 → control_words b ≡ part_at b l k
at_first b l k e = rw e

pub stream-there : (l : List Stream) (n k m : ℕ) → length l ≡ m → k < n → k < m → 1 ≡ kth 0 there_of (take n l) k
stream-there l n k m e h i = is-there 0 there_of 1 n k l no_stream refl h (omega arith)

-- behind the control block
pub there-later : (l : List Stream) (k : ℕ) → (k ≡ 0 → ⊥) → (r : ℕ) → r ≡ kth 0 there_of l (k - 1) → r ≡ part_there l k
there-later l zero h r e = absurd (h refl)
there-later l (suc k) h r e = let z : suc k - 1 ≡ k = omega arith in rw z at e

pub at-later : (b : Block) (l : List Stream) (k : ℕ) → (k ≡ 0 → ⊥) → (w : List ℕ) → w ≡ kth no_block stream_words l (k - 1) → w ≡ part_at b l k
at-later b l zero h w e = absurd (h refl)
at-later b l (suc k) h w e = let z : suc k - 1 ≡ k = omega arith in rw z at e
