-- ANSWERS THAT PRINT ALIKE ARE ALIKE: the same verdict and, where accepted, the same packet, the same question, the same number.
use Rattle.rules.specs.Verdicts.{Verdict, accept}
use mathlib.Core.Path.{◌≡◌, refl, ap}
use mathlib.Core.List.{List}
use Prim.Native.Nat.{ℕ, ◌<◌}
use native.Mathlib.Omega.{arith}
use lib.ListN.{length}
use Rattle.camera_settings.specs.declared.Setting.{Setting}
use Rattle.packets.specs.declared.Reading.{Reading}
use Rattle.packets.specs.declared.Reading.TheVariants.{Asks, Refused}
use Rattle.nearest.specs.Word.{integer_of}
use Rattle.nearest.proofs.Words.{integer-different}
use Rattle.block_text.proofs.Different.{first, refused-split, told-different}
use Rattle.setup_lines.specs.Lines.{packet_line, number_line}
use Rattle.setup_lines.proofs.Different.{packet-different, asks-different, number-different}
use Rattle.setup_text.specs.Answers.{built_text, read_text, moved_by}

pub built-different : (v w : Verdict) (p q : List ℕ) → length p ≡ length q → built_text v p ≡ built_text w q → (v ≡ w) × (v ≡ accept → p ≡ q)
built-different v w p q h e =
    let d = told-different 112 v w (packet_line p) (packet_line q) (λ z. omega arith) refl refl e in
    (d.0, λ a. packet-different p q h (d.1 a))

pub read-different : (r t : Reading) → read_text r ≡ read_text t → r ≡ t
read-different (Asks u c p) (Asks v d q) e = let z = asks-different u v c d p q e in rw (z.0, z.1, z.2)
read-different (Asks u c p) (Refused k o) e = let z : ◌≡◌ {A = ℕ} 117 114 = ap first e in absurd (omega arith)
read-different (Refused j n) (Asks v d q) e = let z : ◌≡◌ {A = ℕ} 114 117 = ap first e in absurd (omega arith)
read-different (Refused j n) (Refused k o) e = let z = refused-split j k n o e in rw (z.0, z.1)

pub moved-different : (s : Setting) (v w : Verdict) (m n : ℕ) → m < 65536 → n < 65536 → moved_by v s m ≡ moved_by w s n → (v ≡ w) × (v ≡ accept → m ≡ n)
moved-different s v w m n h k e =
    let d = told-different 110 v w (number_line (integer_of s m)) (number_line (integer_of s n)) (λ z. omega arith) refl refl e in
    (d.0, λ a. integer-different s m n h k (number-different (integer_of s m) (integer_of s n) (d.1 a)))
