-- Where a configuration stands in a file. `f` is the file.
use Rattle.std.specs.Prelude.{ℕ, ◌-◌, List, Bool, false, length, get_or, ltb, eqb}
use Rattle.le.specs.Le.{le16_at}
use Rattle.rules.specs.IfElse.{if_else}
use Rattle.device_file.specs.declared.Place.{Place}

-- bLength and bDescriptorType of a device descriptor
abbrev pub device_length : ℕ
device_length = 18

abbrev pub device_type : ℕ
device_type = 1

-- a device descriptor stands in front, whole
unfoldable pub is_device : List ℕ → Bool
is_device f = if_else (ltb (length f) device_length) false (if_else (eqb (get_or f 0 0) device_length) (eqb (get_or f 1 0) device_type) false)

-- wTotalLength of what stands behind it; a byte past the end reads as 0
unfoldable pub total_of : List ℕ → ℕ
total_of f = le16_at f 20

-- the whole file is the configuration
abbrev pub whole : List ℕ → Place
whole f = record { offset = 0; length = length f; behind = 0 }

-- the configuration has its own wTotalLength bytes, or all that are left where there are fewer
unfoldable pub first_of : ℕ → ℕ → Place
first_of total left =
    if_else (ltb left total) (record { offset = device_length; length = left; behind = 0 }) (record { offset = device_length; length = total; behind = left - total })

-- WHERE THE CONFIGURATION STANDS: behind a device descriptor, the first one; else it is the whole file
unfoldable pub place_in : List ℕ → Place
place_in f = if_else (is_device f) (first_of (total_of f) (length f - device_length)) (whole f)
