-- EACH LINE TELLS ITS THING: no two packets, no two questions and no two numbers are printed alike.
use mathlib.Core.Path.{◌≡◌, refl, sym, ap, ◌∙◌}
use mathlib.Core.Bool.{cond}
use mathlib.Core.List.{List, [], ◌∷◌, ◌++◌, append_cancel_left}
use Prim.Native.Nat.{ℕ, suc, ◌<◌}
use native.Mathlib.Omega.{arith}
use lib.Dec.{eqb}
use lib.IntN.{ℤ, pos, negsuc}
use lib.ListN.{length, get_or}
use Rattle.camera_settings.specs.declared.Setting.{Setting}
use Rattle.camera_settings.specs.declared.Setting.TheVariants.{Brightness, Contrast, Hue, Saturation}
use Rattle.camera_settings.specs.declared.Request.{Request}
use Rattle.camera_settings.specs.declared.Request.TheVariants.{GetCur, GetMin, GetMax, GetRes, GetDef, SetCur}
use Rattle.camera_settings.proofs.Known.{each-setting, each-request}
use Rattle.text.specs.Decimal.{decimal}
use Rattle.text.specs.Text.{bytes, number}
use Rattle.text.proofs.Different.{number-split, line-split}
use Rattle.text.proofs.Values.{AllDigits, spells}
use Rattle.setup_lines.specs.Lines.{setting_name, request_name, packet_line, asks_line, integer, number_line}

-- ---- a packet
pub packet-different : (p q : List ℕ) → length p ≡ length q → packet_line p ≡ packet_line q → p ≡ q
packet-different p q h e = (line-split (bytes "packet") p q [] [] h (ap (λ (l : List ℕ). l ++ []) e)).0

-- ---- a name tells its setting by its first letter, its request by its first and its last
setting_of : List ℕ → Setting
setting_of l = cond (eqb (get_or l 0 0) 98) Brightness (cond (eqb (get_or l 0 0) 99) Contrast (cond (eqb (get_or l 0 0) 104) Hue Saturation))

setting-told : (c : Setting) (s : List ℕ) → setting_of (setting_name c ++ s) ≡ c
unfolding setting_of
setting-told c s = each-setting (λ c. setting_of (setting_name c ++ s) ≡ c) refl refl refl refl c

pub setting-split : (c d : Setting) (s t : List ℕ) → setting_name c ++ s ≡ setting_name d ++ t → (c ≡ d) × (s ≡ t)
setting-split c d s t e =
    let z : c ≡ d = sym (setting-told c s) ∙ ap setting_of e ∙ setting-told d t in
    (z, append_cancel_left (setting_name d) s t (rw z at e))

request_of : List ℕ → Request
request_of l =
    cond (eqb (get_or l 0 0) 115) SetCur
    (cond (eqb (get_or l 6 0) 114) GetCur (cond (eqb (get_or l 6 0) 110) GetMin (cond (eqb (get_or l 6 0) 120) GetMax (cond (eqb (get_or l 6 0) 115) GetRes GetDef))))

request-told : (q : Request) (s : List ℕ) → request_of (request_name q ++ s) ≡ q
unfolding request_of
request-told q s = each-request (λ q. request_of (request_name q ++ s) ≡ q) refl refl refl refl refl refl q

pub request-split : (p q : Request) (s t : List ℕ) → request_name p ++ s ≡ request_name q ++ t → p ≡ q
request-split p q s t e = sym (request-told p s) ∙ ap request_of e ∙ request-told q t

-- ---- what a packet asks for
abbrev requests : Request → List ℕ
requests q = bytes " request " ++ (request_name q ++ (10 ∷ []))

abbrev controls : Setting → Request → List ℕ
controls c q = bytes " control " ++ (setting_name c ++ requests q)

pub asks-different : (u v : ℕ) (c d : Setting) (p q : Request) → asks_line u c p ≡ asks_line v d q → (u ≡ v) × (c ≡ d) × (p ≡ q)
asks-different u v c d p q e =
    let a = number-split u v (controls c p) (controls d q) (omega arith) (omega arith) (append_cancel_left (bytes "unit") (number u ++ controls c p) (number v ++ controls d q) e) in
    let b = setting-split c d (requests p) (requests q) (append_cancel_left (bytes " control ") (setting_name c ++ requests p) (setting_name d ++ requests q) a.1) in
    let r = request-split p q (10 ∷ []) (10 ∷ []) (append_cancel_left (bytes " request ") (request_name p ++ (10 ∷ [])) (request_name q ++ (10 ∷ [])) b.1) in
    (a.0, b.0, r)

-- ---- a number
digits-different : (m n : ℕ) → decimal m ++ (10 ∷ []) ≡ decimal n ++ (10 ∷ []) → m ≡ n
digits-different m n e = (number-split m n (10 ∷ []) (10 ∷ []) (omega arith) (omega arith) (ap (λ (l : List ℕ). 32 ∷ l) e)).0

-- digits do not begin with a minus sign
no_minus : (ds s t : List ℕ) → AllDigits ds → 0 < length ds → ds ++ s ≡ 45 ∷ t → ⊥
no_minus [] s t a h e = omega arith
no_minus (d ∷ ds) s t a h e = let z : d ≡ 45 = cc in omega (arith, a.0)

integer-different : (x y : ℤ) → integer x ++ (10 ∷ []) ≡ integer y ++ (10 ∷ []) → x ≡ y
integer-different (pos m) (pos n) e = ap pos (digits-different m n e)
integer-different (pos m) (negsuc n) e = absurd (no_minus (decimal m) (10 ∷ []) (decimal (suc n) ++ (10 ∷ [])) (spells m).all (spells m).some e)
integer-different (negsuc m) (pos n) e = absurd (no_minus (decimal n) (10 ∷ []) (decimal (suc m) ++ (10 ∷ [])) (spells n).all (spells n).some (sym e))
integer-different (negsuc m) (negsuc n) e = let z : decimal (suc m) ++ (10 ∷ []) ≡ decimal (suc n) ++ (10 ∷ []) = cc in ap negsuc (omega (arith, digits-different (suc m) (suc n) z))

pub number-different : (x y : ℤ) → number_line x ≡ number_line y → x ≡ y
number-different x y e = integer-different x y (append_cancel_left (bytes "number ") (integer x ++ (10 ∷ [])) (integer y ++ (10 ∷ [])) e)
