use Rattle.rules.specs.IfElse.{if_elses}
use Rattle.control_map.proofs.camera_place.Goals as goal

pub returns-then-terminal-eq-CAMERA : goal.returns-then-terminal-eq-CAMERA
returns-then-terminal-eq-CAMERA c = search if_elses depth 8

pub returns : goal.returns
returns c = search if_elses depth 8
