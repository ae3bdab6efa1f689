-- NV12 of 3 by 3 has 108 bits: 14 bytes hold it and 13 do not.
use mathlib.Core.Path.{◌≡◌, refl}
use mathlib.Core.Bool.{true, false}
use Rattle.rules.specs.IfElse.{if_else}
use Rattle.pictures.specs.Pictures.{bits_of, untrue}

just_enough : untrue 2 12 3 3 14 ≡ false
unfolding untrue bits_of if_else
just_enough = refl

rounded-down : untrue 2 12 3 3 13 ≡ true
unfolding untrue bits_of if_else
rounded-down = refl

-- 640 by 480 in YUY2, with room for half a picture
half : untrue 1 16 640 480 307200 ≡ true
unfolding untrue bits_of if_else
half = refl

-- the largest picture needs more than any buffer size says: 65,535 by 65,535 in 16 bits
largest : untrue 1 16 65535 65535 4294967295 ≡ true
unfolding untrue bits_of if_else
largest = refl
