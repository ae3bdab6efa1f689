-- Documents 01 and 02 (request Four): what the three revisions of the class say where they differ, a line for each.
use Rattle.std.specs.Prelude.{true, false}
use Rattle.entities.specs.declared.Revision.{Revision}
use Rattle.entities.specs.declared.Revision.TheVariants.{R10, R11, R15}
use Rattle.entities.specs.declared.Says.{Says}

-- camera terminals have length `camera` + n and processing units `unit` + n, n the control size, from `least` to `most`; whether subtype 7, the encoding unit, is
-- known; and the bytes of a probe block
unfoldable pub says_of : Revision → Says
says_of R10 = record { camera = 15; unit = 9; least = 0; most = 32; encoding = false; probe = 26 }
says_of R11 = record { camera = 15; unit = 10; least = 0; most = 32; encoding = false; probe = 34 }
says_of R15 = record { camera = 15; unit = 10; least = 3; most = 3; encoding = true; probe = 48 }
