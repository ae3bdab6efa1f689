-- The settings of a streaming interface in order of appearance, and the one that is picked, computed. Nothing here needs to be believed: Holding and
-- configuration_words/specs/Listed say it in words. `s` is the configuration.
use Rattle.std.specs.Prelude.{ℕ, zero, suc, List, [], ◌∷◌, map, Bool, ltb, eqb, None, Option, Some}
use Rattle.rules.specs.IfElse.{if_else}
use Rattle.configuration_rules.specs.Descriptors.{endpoint_type, type_at, setting_at as number_of, packet_at, after_at, packet_bytes}
use Rattle.configuration_rules.specs.declared.Sought.TheVariants as sought
use Rattle.interfaces.specs.Inner.{found, next_of}
use Rattle.alternate_settings.specs.declared.Setting.{Setting}

-- the first endpoint of this address between the interface descriptor at o and the next one; the next one, or the end, where there is none
abbrev pub endpoint_place : List ℕ → ℕ → ℕ → ℕ
endpoint_place s o address = next_of (sought.Endpoint address) s (after_at s o)

-- the bytes per microframe that its wMaxPacketSize says; 0 where there is none
unfoldable pub bytes_at : List ℕ → ℕ → ℕ → ℕ
bytes_at s o address =
    let e = endpoint_place s o address in
    if_else (eqb (type_at s e) endpoint_type) (packet_bytes (packet_at s e)) 0

unfoldable pub setting_at : List ℕ → ℕ → ℕ → Setting
setting_at s address o = record { number = number_of s o; bytes = bytes_at s o address }

-- the settings of interface n, their bytes at this endpoint
abbrev pub settings_of : List ℕ → ℕ → ℕ → List Setting
settings_of s n address = map (setting_at s address) (found (sought.Setting n) s 0)

-- the k-th, from 0
unfoldable pub kth_of : List Setting → ℕ → Option Setting
kth_of [] k = None
kth_of (x ∷ l) zero = Some x
kth_of (x ∷ l) (suc k) = kth_of l k

-- fewer bytes, or as many and a lower number
unfoldable pub is_better : Setting → Setting → Bool
is_better x y = if_else (eqb x.bytes y.bytes) (ltb x.number y.number) (ltb x.bytes y.bytes)

-- one that holds the payload size p, against the best so far
unfoldable pub against : Option Setting → Setting → Option Setting
against None x = Some x
against (Some y) x = if_else (is_better x y) (Some x) (Some y)

unfoldable pub better_of : ℕ → Option Setting → Setting → Option Setting
better_of p best x = if_else (ltb x.bytes p) best (against best x)

unfoldable pub fewest_from : ℕ → Option Setting → List Setting → Option Setting
fewest_from p best [] = best
fewest_from p best (x ∷ l) = fewest_from p (better_of p best x) l

abbrev pub fewest_of : ℕ → List Setting → Option Setting
fewest_of p l = fewest_from p None l
