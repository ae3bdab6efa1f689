-- What a reader sees in a long record of this kind with these bytes: it is good, and they are its kind, its length and its bytes.
use Rattle.std.specs.Prelude.{ℕ, ◌≡◌, false, List, length}
use Rattle.records.specs.declared.Form.TheVariants.{Long}
use Rattle.records.specs.Record.{kind_at, length_at, bytes_at, record_bad}
use Rattle.long_records.specs.Long.{long_of, long_size}

pub record GoodLong (kind : ℕ) (bytes : List ℕ) : Type 0 where
  pub good : record_bad Long (long_of kind bytes) ≡ false
  pub size : length (long_of kind bytes) ≡ long_size
  pub kind-there : kind_at (long_of kind bytes) ≡ kind
  pub length-there : length_at Long (long_of kind bytes) ≡ length bytes
  pub bytes-there : bytes_at Long (long_of kind bytes) ≡ bytes
