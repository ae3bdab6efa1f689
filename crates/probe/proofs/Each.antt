-- Fields and bytes, one by one: what the callees' answers make together.
use Prim.Native.Nat.{ℕ}
use mathlib.Core.Path.{◌≡◌}
use mathlib.Core.List.{List, [], ◌∷◌}
use lib.ListN.{get_or}
use Rattle.std.specs.Int.{w16, w32, to_le_bytes}
use Rattle.le.specs.Le.{le16_at, le32_at}
use Rattle.probe.specs.Fields.{bytes_at, fields_of, bytes_of}
use Rattle.probe.specs.declared.Probe.{Probe}

-- the fields, one by one
pub fields-are :
    (s : List ℕ) (f0 f1 f2 f3 f4 f5 f6 f7 f8 f9 f10 g30 g31 g32 g33 g34 g35 g36 g37 : ℕ) (l : List ℕ) →
    f0 ≡ le16_at s 0 →
    f1 ≡ le32_at s 4 →
    f2 ≡ le16_at s 8 →
    f3 ≡ le16_at s 10 →
    f4 ≡ le16_at s 12 →
    f5 ≡ le16_at s 14 →
    f6 ≡ le16_at s 16 →
    f7 ≡ le32_at s 18 →
    f8 ≡ le32_at s 22 →
    f9 ≡ le32_at s 26 →
    f10 ≡ le16_at s 38 →
    l ≡ bytes_at s 40 8 →
    g30 ≡ get_or s 30 0 →
    g31 ≡ get_or s 31 0 →
    g32 ≡ get_or s 32 0 →
    g33 ≡ get_or s 33 0 →
    g34 ≡ get_or s 34 0 →
    g35 ≡ get_or s 35 0 →
    g36 ≡ get_or s 36 0 →
    g37 ≡ get_or s 37 0 →
    ◌≡◌ {A = Probe} (record { hint = f0; format = get_or s 2 0; frame = get_or s 3 0; interval = f1; key_rate = f2; p_rate = f3; quality = f4; window = f5; delay = f6; frame_size = f7; payload_size = f8; clock = f9; framing = g30; preferred = g31; minimum = g32; maximum = g33; usage = g34; luma_depth = g35; settings = g36; reference_frames = g37; rate_modes = f10; layout = l }) (fields_of s)
unfolding fields_of
fields-are s f0 f1 f2 f3 f4 f5 f6 f7 f8 f9 f10 g30 g31 g32 g33 g34 g35 g36 g37 l e0 e1 e2 e3 e4 e5 e6 e7 e8 e9 e10 el d30 d31 d32 d33 d34 d35 d36 d37 =
    rw (e0, e1, e2, e3, e4, e5, e6, e7, e8, e9, e10, el, d30, d31, d32, d33, d34, d35, d36, d37)

-- the bytes, those of a number by the library's own function
pub bytes-are :
    (p : Probe) (hint interval key_rate p_rate quality window delay frame_size payload_size clock rate_modes : List ℕ) →
    hint ≡ to_le_bytes w16 p.hint →
    interval ≡ to_le_bytes w32 p.interval →
    key_rate ≡ to_le_bytes w16 p.key_rate →
    p_rate ≡ to_le_bytes w16 p.p_rate →
    quality ≡ to_le_bytes w16 p.quality →
    window ≡ to_le_bytes w16 p.window →
    delay ≡ to_le_bytes w16 p.delay →
    frame_size ≡ to_le_bytes w32 p.frame_size →
    payload_size ≡ to_le_bytes w32 p.payload_size →
    clock ≡ to_le_bytes w32 p.clock →
    rate_modes ≡ to_le_bytes w16 p.rate_modes →
    ◌≡◌ {A = List ℕ} (get_or hint 0 0 ∷ get_or hint 1 0 ∷ p.format ∷ p.frame ∷ get_or interval 0 0 ∷ get_or interval 1 0 ∷ get_or interval 2 0 ∷ get_or interval 3 0 ∷ get_or key_rate 0 0 ∷ get_or key_rate 1 0 ∷ get_or p_rate 0 0 ∷ get_or p_rate 1 0 ∷ get_or quality 0 0 ∷ get_or quality 1 0 ∷ get_or window 0 0 ∷ get_or window 1 0 ∷ get_or delay 0 0 ∷ get_or delay 1 0 ∷ get_or frame_size 0 0 ∷ get_or frame_size 1 0 ∷ get_or frame_size 2 0 ∷ get_or frame_size 3 0 ∷ get_or payload_size 0 0 ∷ get_or payload_size 1 0 ∷ get_or payload_size 2 0 ∷ get_or payload_size 3 0 ∷ get_or clock 0 0 ∷ get_or clock 1 0 ∷ get_or clock 2 0 ∷ get_or clock 3 0 ∷ p.framing ∷ p.preferred ∷ p.minimum ∷ p.maximum ∷ p.usage ∷ p.luma_depth ∷ p.settings ∷ p.reference_frames ∷ get_or rate_modes 0 0 ∷ get_or rate_modes 1 0 ∷ get_or p.layout 0 0 ∷ get_or p.layout 1 0 ∷ get_or p.layout 2 0 ∷ get_or p.layout 3 0 ∷ get_or p.layout 4 0 ∷ get_or p.layout 5 0 ∷ get_or p.layout 6 0 ∷ get_or p.layout 7 0 ∷ []) (bytes_of p)
unfolding bytes_of
bytes-are p hint interval key_rate p_rate quality window delay frame_size payload_size clock rate_modes e0 e1 e2 e3 e4 e5 e6 e7 e8 e9 e10 =
    rw (e0, e1, e2, e3, e4, e5, e6, e7, e8, e9, e10)
