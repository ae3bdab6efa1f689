-- The short form is document 01's.
use mathlib.Core.Path.{refl}
use Rattle.records.specs.declared.Form.TheVariants.{Short}
use Rattle.records.specs.Record.{record_bad}
use Rattle.records.specs.Short.{ShortForm}
use Rattle.records.proofs.Records.{records-none, records-more}

pub short-form : ShortForm
unfolding record_bad
short-form =
    record {
      size = refl;
      length-there = λ r. refl;
      bytes = λ r. refl;
      bad = λ r. refl;
      no-records = records-none Short;
      records = records-more Short;
    }
