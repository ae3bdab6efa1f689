-- A transfer of a sender as a record of a long trace, and the stamps of frames that are so many ticks apart.
use Rattle.std.specs.Prelude.{ℕ, zero, suc, ◌+◌, ◌%◌, ◌^◌, Bool, true, false, List, length}
use Rattle.std.proofs.Math.Seq.{paste}
use Rattle.long_records.specs.Long.{long_of}
use Rattle.sender.specs.declared.Sending.{Sending}
use Rattle.sender.specs.declared.Sending.TheVariants.{Refused, Done, Wrote}

-- the record of a transfer, of kind 0, at the front
unfoldable pub record_in : List ℕ → List ℕ → List ℕ
record_in t out = paste out 0 (long_of 0 t) (length (long_of 0 t))

-- how many bytes were written
abbrev pub size_in : Sending → ℕ
size_in (Refused k) = 0
size_in Done = 0
size_in (Wrote n) = n

abbrev pub is_wrote : Sending → Bool
is_wrote (Refused k) = false
is_wrote Done = false
is_wrote (Wrote n) = true

-- the record of the transfer where one was written; else no byte is changed
abbrev pub out_if : Bool → List ℕ → List ℕ → List ℕ
out_if true t out = record_in t out
out_if false t out = out

abbrev pub out_by : Sending → List ℕ → List ℕ → List ℕ
out_by z t out = out_if (is_wrote z) t out

-- so many ticks later
abbrev pub later_of : ℕ → ℕ → ℕ
later_of ticks stamp = (stamp + ticks) % 2 ^ 32

-- the stamp of frame i, from 0: each is so many ticks after the one before it
abbrev pub stamp_at : ℕ → ℕ → ℕ
stamp_at ticks zero = 0
stamp_at ticks (suc i) = later_of ticks (stamp_at ticks i)
