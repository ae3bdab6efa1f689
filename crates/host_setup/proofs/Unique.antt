-- The promise of each function leaves one answer, and one content of the room.
use Rattle.rules.specs.Verdicts.{Verdict}
use Prim.Native.Nat.{ℕ}
use mathlib.Core.Path.{◌≡◌, refl, sym, ap, ◌∙◌}
use mathlib.Core.List.{List}
use Rattle.camera_settings.proofs.Known.{selector-different, code-different}
use Rattle.camera_settings.specs.declared.Setting.{Setting}
use Rattle.camera_settings.specs.declared.Request.{Request}
use Rattle.packets.specs.Packets.{packet_of, leaves}
use Rattle.setup.proofs.Unique as unique
use Rattle.nearest.specs.Answer.{NearestIs}
use Rattle.nearest.proofs.Unique.{nearest-unique}
use Rattle.host_told.specs.Told.{verdict_told}
use Rattle.host_told.specs.declared.Told.{Told}
use Rattle.host_told.proofs.Unique.{from-unique}
use Rattle.host_setup.specs.Setup.{SetupWith, by-request, with-request, SetupIs, by-setting, with-setting, AskedAnswer, asked_told, moved_told, MovedIs}
use Rattle.host_setup.specs.Setup as setup
use Rattle.host_setup.specs.declared.AskedTold.{AskedTold}
use Rattle.host_setup.specs.declared.MovedTold.{MovedTold}

module _ (s : List ℕ) (interface unit q : ℕ) (room : List ℕ) where
  same-packet : (c : Setting) (d e : Request) (v w : Verdict) → d ≡ e → v ≡ w
      → (verdict_told v ≡ verdict_told w) × (leaves v (packet_of interface unit c d) room ≡ leaves w (packet_of interface unit c e) room)
  same-packet c d e v w f g = (rw g, rw (f, g))

  pub with-unique : (c : Setting) {r t : Told} {x y : List ℕ} → SetupWith s interface unit c q room r x → SetupWith s interface unit c q room t y → (r ≡ t) × (x ≡ y)
  with-unique c (by-request h) (by-request k) = (refl, refl)
  with-unique c (by-request h) (with-request d e v b) = absurd (h d e)
  with-unique c (with-request d e v b) (by-request k) = absurd (k d e)
  with-unique c (with-request d e v b) (with-request g f w z) = same-packet c d g v w (code-different d g (sym e ∙ f)) (unique.verdict-unique s unit c room b z)

  same-setting : (c d : Setting) → c ≡ d → {t : Told} {y : List ℕ} → SetupWith s interface unit c q room t y → SetupWith s interface unit d q room t y
  same-setting c d e w = rw e at w

  pub setup-unique : (n : ℕ) {r t : Told} {x y : List ℕ} → SetupIs s interface unit n q room r x → SetupIs s interface unit n q room t y → (r ≡ t) × (x ≡ y)
  setup-unique n (by-setting h) (by-setting k) = (refl, refl)
  setup-unique n (by-setting h) (with-setting c e r l w) = absurd (h c e)
  setup-unique n (with-setting c e r l w) (by-setting k) = absurd (k c e)
  setup-unique n (with-setting c e r l w) (with-setting d f t m z) = with-unique d (same-setting c d (selector-different c d (sym e ∙ f)) w) z

pub asked-unique : (s : List ℕ) (interface : ℕ) (bytes : List ℕ) (r t : AskedTold) → AskedAnswer s interface bytes r → AskedAnswer s interface bytes t → r ≡ t
asked-unique s interface bytes r t = from-unique (λ a b x y. unique.read-unique s interface bytes x y) asked_told r t

module _ (n minimum maximum step wanted : ℕ) where
  same-nearest : (c d : Setting) → c ≡ d → {m : _} → NearestIs c minimum maximum step wanted m → NearestIs d minimum maximum step wanted m
  same-nearest c d e h = rw e at h

  pub moved-unique : {r t : MovedTold} → MovedIs n minimum maximum step wanted r → MovedIs n minimum maximum step wanted t → r ≡ t
  moved-unique (setup.MovedIs.by-setting h) (setup.MovedIs.by-setting k) = refl
  moved-unique (setup.MovedIs.by-setting h) (setup.MovedIs.with-setting c e m b) = absurd (h c e)
  moved-unique (setup.MovedIs.with-setting c e m b) (setup.MovedIs.by-setting k) = absurd (k c e)
  moved-unique (setup.MovedIs.with-setting c e m b) (setup.MovedIs.with-setting d f l z) =
      ap moved_told (nearest-unique d minimum maximum step wanted (same-nearest c d (selector-different c d (sym e ∙ f)) b) z)
