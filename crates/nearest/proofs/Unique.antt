-- The promise of `nearest` leaves one answer, and there is always one.
use Prim.Native.Nat.{ℕ}
use mathlib.Core.Path.{◌≡◌, refl, ap}
use lib.Signed.{clash_ℤ}
use Rattle.camera_settings.specs.declared.Setting.{Setting}
use Rattle.nearest.specs.Word.{integer_of}
use Rattle.nearest.specs.Answer.{moved_to, range_of, NearestIs, NearestIs.by-92, NearestIs.by-93, NearestIs.moved}
use Rattle.nearest.specs.declared.Moved.{Moved}
use Rattle.nearest.proofs.Integers.{one-nearest}
use Rattle.nearest.proofs.Words.{integer-different}

module _ (s : Setting) (minimum maximum step wanted : ℕ) where
  pub nearest-unique : {r t : Moved} → NearestIs s minimum maximum step wanted r → NearestIs s minimum maximum step wanted t → r ≡ t
  nearest-unique (by-92 h) (by-92 k) = refl
  nearest-unique (by-92 h) (by-93 k l) = clash_ℤ h k
  nearest-unique (by-92 h) (moved k l w f n) = clash_ℤ h k
  nearest-unique (by-93 h l) (by-92 k) = clash_ℤ k h
  nearest-unique (by-93 h l) (by-93 k m) = refl
  nearest-unique (by-93 h l) (moved k m w f n) = clash_ℤ m l
  nearest-unique (moved h l v g n) (by-92 k) = clash_ℤ k h
  nearest-unique (moved h l v g n) (by-93 k m) = clash_ℤ l m
  nearest-unique (moved h l v g n) (moved k m w f q) =
      ap moved_to (integer-different s v w g f (one-nearest (range_of s minimum maximum step) (integer_of s wanted) (integer_of s v) (integer_of s w) n q))
