use Rattle.text.proofs.Texts.{none}
use native.Mathlib.Omega.{arith}
use Rattle.camera_lines.proofs.endpoint.Goals as goal

pub returns-in-Other : goal.returns-in-Other
returns-in-Other c = rw c.in-Other.is (none _ _ (omega arith))

pub returns-in-Control : goal.returns-in-Control
returns-in-Control c = rw c.in-Control.is (none _ _ (omega arith))

pub returns-in-Newest : goal.returns-in-Newest
returns-in-Newest c = rw c.in-Newest.is (none _ _ (omega arith))

pub returns-in-Streaming : goal.returns-in-Streaming
returns-in-Streaming c = rw (c.in-Streaming.is, ← c.byte_of.ensures) c.endpoint_by.ensures

pub returns-in-Setting : goal.returns-in-Setting
returns-in-Setting c = rw (c.in-Setting.is, ← c.byte_of-in-Setting.ensures) c.endpoint_by-in-Setting.ensures
