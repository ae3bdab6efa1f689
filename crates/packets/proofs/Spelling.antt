-- What the bytes of a packet tell: its request, its setting, its unit.
use Rattle.std.specs.Prelude.{None, Option, Some}
use Prim.Native.Nat.{ℕ}
use mathlib.Core.Path.{◌≡◌, sym, ap, ◌∙◌}
use mathlib.Core.List.{List}
use mathlib.Core.Bool.{Bool, true, false}
use native.Mathlib.Omega.{arith}
use lib.ListN.{get_or}
use Rattle.camera_settings.specs.Numbers.{selector_of, code_of, SettingIs, RequestIs}
use Rattle.camera_settings.specs.declared.Setting.{Setting}
use Rattle.camera_settings.specs.declared.Request.{Request}
use Rattle.camera_settings.proofs.Known.{selector-different, code-different}
use Rattle.camera_settings.proofs.Told.{selector-is, selector-none, code_is, code-none}
use Rattle.packets.specs.Packets.{packet_of, SpeltIs, SpeltIs.spelt, SpeltIs.by-95}
use Rattle.packets.specs.Inner.{SpeltWith, SpeltWith.with, SpeltWith.with_none, SpeltBy, SpeltBy.by, SpeltBy.by-none}
use Rattle.packets.specs.declared.Reading.{Reading}
use Rattle.packets.specs.declared.Reading.TheVariants.{Asks, Refused}

not-both : false ≡ true → ⊥
not-both e = let z : ◌≡◌ {A = ℕ} 0 1 = cc in omega arith

module _ (interface : ℕ) (bytes : List ℕ) where
  -- ---- the bytes of a packet at its places
  code-told : (u : ℕ) (c : Setting) (q : Request) → bytes ≡ packet_of interface u c q → get_or bytes 1 0 ≡ code_of q
  code-told u c q e = rw e

  selector-told : (u : ℕ) (c : Setting) (q : Request) → bytes ≡ packet_of interface u c q → get_or bytes 3 0 ≡ selector_of c
  selector-told u c q e = rw e

  unit-told : (u : ℕ) (c : Setting) (q : Request) → bytes ≡ packet_of interface u c q → get_or bytes 5 0 ≡ u
  unit-told u c q e = rw e

  -- ---- compared whole
  pub by-same : (u : ℕ) (c : Setting) (q : Request) (p : List ℕ) → p ≡ packet_of interface u c q → bytes ≡ p → SpeltBy interface c q bytes (Asks u c q)
  by-same u c q p e f = by u (f ∙ e)

  pub by-other : (u : ℕ) (c : Setting) (q : Request) (p : List ℕ) (t : Bool) (r : Reading)
      → u ≡ get_or bytes 5 0 → p ≡ packet_of interface u c q → t ≡ false → (bytes ≡ p → t ≡ true) → r ≡ Refused 95 0 → SpeltBy interface c q bytes r
  by-other u c q p t r h e n f z =
      rw z (by-none (λ v k. not-both (sym n ∙ f (k ∙ sym (e ∙ ap (λ (x : ℕ). packet_of interface x c q) (h ∙ unit-told v c q k))))))

  -- ---- by the setting that is found
  module _ (q : Request) (g : Option Setting) (x : ℕ) (h : x ≡ get_or bytes 3 0) (i : SettingIs x g) where
    pub no-setting : (r : Reading) → g ≡ None → r ≡ Refused 95 0 → SpeltWith interface q bytes r
    no-setting r n z = rw z (with_none (λ u c e. selector-none x i n c (h ∙ selector-told u c q e)))

    pub this-setting : (c : Setting) {r : Reading} → g ≡ Some c → SpeltBy interface c q bytes r → SpeltWith interface q bytes r
    this-setting c n (by u e) = with u c e
    this-setting c n (by-none f) =
        with_none (λ u d e. let z : d ≡ c = selector-different d c (sym (h ∙ selector-told u d q e) ∙ selector-is x i c n) in f u (rw z at e))

  -- ---- by the request that is found
  module _ (g : Option Request) (x : ℕ) (h : x ≡ get_or bytes 1 0) (i : RequestIs x g) where
    pub no-request : (r : Reading) → g ≡ None → r ≡ Refused 95 0 → SpeltIs interface bytes r
    no-request r n z = rw z (by-95 (λ u c q e. code-none x i n q (h ∙ code-told u c q e)))

    pub this-request : (q : Request) {r : Reading} → g ≡ Some q → SpeltWith interface q bytes r → SpeltIs interface bytes r
    this-request q n (with u c e) = spelt u c q e
    this-request q n (with_none f) =
        by-95 (λ u c p e. let z : p ≡ q = code-different p q (sym (h ∙ code-told u c p e) ∙ code_is x i q n) in f u c (rw z at e))

-- TWO PACKETS at one interface that are alike are of one unit, setting and request
pub packet-different : (interface u v : ℕ) (c d : Setting) (q p : Request) → packet_of interface u c q ≡ packet_of interface v d p → (u ≡ v) × (c ≡ d) × (q ≡ p)
packet-different interface u v c d q p e = (
  unit-told interface (packet_of interface u c q) v d p e,
  selector-different c d (selector-told interface (packet_of interface u c q) v d p e),
  code-different q p (code-told interface (packet_of interface u c q) v d p e),
)
