-- One form for each sender: its words are read back as it was, and words that are a sender's are those that it is laid out with.
use Prim.Native.Nat.{ℕ, zero, suc, ◌≤◌}
use mathlib.Core.Path.{◌≡◌, refl}
use mathlib.Core.Bool.{Bool, true, false}
use mathlib.Core.List.{[], ◌∷◌}
use lib.Dec.{ltb, eqb}
use borrow.Author.Tests.{ltb-false}
use native.Mathlib.Omega.{arith}
use Rattle.sender.specs.declared.Sender.{Sender}
use Rattle.host_sender.specs.Words.{one_of, words_of, sender_in, unsound_in}

read-fid : (fid : Bool) → eqb (one_of fid) 1 ≡ fid
read-fid true = refl
read-fid false = refl

pub read_back : (x : Sender) → sender_in (words_of x) ≡ x
read_back x = rw (read-fid x.fid)

pub read-sound : (x : Sender) → unsound_in (words_of x) ≡ false
read-sound x = go x.fid
  where
    go : (fid : Bool) → ltb 1 (one_of fid) ≡ false
    go true = refl
    go false = refl

one-of : (a : ℕ) → a ≤ 1 → one_of (eqb a 1) ≡ a
one-of zero h = refl
one-of (suc zero) h = refl
one-of (suc (suc a)) h = absurd (omega arith)

pub laid_out : (a b : ℕ) → unsound_in (a ∷ b ∷ []) ≡ false → words_of (sender_in (a ∷ b ∷ [])) ≡ a ∷ b ∷ []
laid_out a b e = rw (one-of a (ltb-false 1 a e))
