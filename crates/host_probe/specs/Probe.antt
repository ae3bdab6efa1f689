-- What a C host is told of a probe block that is read, written and checked, and what is left in the words and in the room.
use Rattle.rules.specs.Verdicts.{Verdict, refuse}
use Rattle.std.specs.Prelude.{ℕ, List, ltb, eqb, None, Option, Some, Err, Ok}
use Rattle.rules.specs.IfElse.{if_else}
use Rattle.entities.specs.declared.Revision.{Revision}
use Rattle.entities.specs.declared.Revision.TheVariants.{R10, R11, R15}
use Rattle.entities.specs.declared.Table.{Table}
use Rattle.control.specs.Answer.{ControlIs}
use Rattle.control.specs.declared.Control.{Control}
use Rattle.probe.specs.Fields.{probe_of, room_verdict, written}
use Rattle.probe_check.specs.Answer.{check_of}
use Rattle.host_told.specs.Told.{verdict_told, unknown, unknown_told, From}
use Rattle.host_told.specs.declared.Told.{Told}
use Rattle.host_probe.specs.Words.{word_count, words_of, fields_in, wide_at}

-- bcdUVC of the three revisions
unfoldable pub revision_in : ℕ → Option Revision
revision_in n = if_else (eqb n 0x0100) (Some R10) (if_else (eqb n 0x0110) (Some R11) (if_else (eqb n 0x0150) (Some R15) None))

-- READING the block s: what is told, and what stands in the words w after it
abbrev pub read_as : Revision → List ℕ → Told
read_as v s = verdict_told (probe_of v s).verdict

abbrev pub read_told : Option Revision → List ℕ → Told
read_told None s = unknown_told
read_told (Some v) s = read_as v s

abbrev pub verdict_left : Verdict → List ℕ → List ℕ → List ℕ
verdict_left (Ok _) new w = new
verdict_left (Err r) new w = w

abbrev pub read_left_as : Revision → List ℕ → List ℕ → List ℕ
read_left_as v s w = verdict_left (probe_of v s).verdict (words_of (probe_of v s).probe) w

abbrev pub read_left : Option Revision → List ℕ → List ℕ → List ℕ
read_left None s w = w
read_left (Some v) s w = read_left_as v s w

-- WRITING the words w: what is told, and what stands in the room after it; a word over its width is told with its place
abbrev pub wide_told : ℕ → Told
wide_told i = record { number = unknown; zero = 0; offset = i }

unfoldable pub write_as : Revision → List ℕ → List ℕ → Told
write_as v w room = if_else (ltb (wide_at w) word_count) (wide_told (wide_at w)) (verdict_told (room_verdict v room))

abbrev pub write_told : Option Revision → List ℕ → List ℕ → Told
write_told None w room = unknown_told
write_told (Some v) w room = write_as v w room

unfoldable pub write_left_as : Revision → List ℕ → List ℕ → List ℕ
write_left_as v w room = if_else (ltb (wide_at w) word_count) room (written v (fields_in w) room)

abbrev pub write_left : Option Revision → List ℕ → List ℕ → List ℕ
write_left None w room = room
write_left (Some v) w room = write_left_as v w room

-- CHECKING the probe block a against the streaming block t behind the control block s: the control block's own refusal comes first
abbrev pub check_under : Verdict → Table → List ℕ → List ℕ → Told
check_under (Ok _) table t a = verdict_told (check_of table t a)
check_under (Err r) table t a = verdict_told (refuse r.number r.offset)

abbrev pub CheckAnswer : List ℕ → List ℕ → List ℕ → Told → Type 0
CheckAnswer s t a r = From (ControlIs s) (λ (c : Control). check_under c.verdict c.table t a) r
