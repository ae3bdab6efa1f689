-- The bytes per microframe of five values of wMaxPacketSize, by computation.
use mathlib.Core.Path.{◌≡◌, refl}
use Rattle.configuration_rules.specs.Descriptors.{packet_bytes}

pub packets : (packet_bytes 0x13FC ≡ 3060) × (packet_bytes 0x0A80 ≡ 1280) × (packet_bytes 0x1FFF ≡ 8188) × (packet_bytes 0xE200 ≡ 512) × (packet_bytes 0 ≡ 0)
unfolding packet_bytes
packets = (refl, refl, refl, refl, refl)
