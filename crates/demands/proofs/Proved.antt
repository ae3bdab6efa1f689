-- The three demands, proved.
use Rattle.control.proofs.ExactlyWhen as control
use Rattle.control.proofs.Listed as control-list
use Rattle.control_map.proofs.ExactlyWhen as map
use Rattle.revisions.proofs.Own.{shows}
use Rattle.streaming.proofs.ExactlyWhen as streaming
use Rattle.streaming.proofs.Listed as streaming-list
use Rattle.probe.proofs.RoundTrip as probe
use Rattle.probe_check.proofs.ExactlyWhen.{says-yes, says-no}
use Rattle.configuration_words.proofs.ExactlyWhen as configuration
use Rattle.configuration_words.proofs.Listed as configuration-list
use Rattle.books.proofs.Proved.{no-input-stops, frames-whole, nothing-missing}
use Rattle.demands.specs.Demands.{First, Second, Demands}

first : First
first =
    record {
      sessions = no-input-stops;
      no-entities = λ s c r. control.zero-table s r;
      no-formats = λ t s k o f. streaming.all-zero t s f;
      room-kept = probe.refused-keeps;
      past-kept = probe.past-kept;
    }

second : Second
second =
    record {
      control-accepted = control.accepted;
      control-refused = control.refused;
      streaming-accepted = streaming.accepted;
      streaming-refused = streaming.refused;
      probe-yes = says-yes;
      probe-no = says-no;
      configuration-accepted = configuration.accepted;
      configuration-refused = configuration.refused;
      control-lists = λ s c r. control-list.lists s r;
      control-shows = λ s c r a. shows s c r a;
      streaming-lists = streaming-list.lists;
      configuration-lists = configuration-list.lists-all;
      map-given = map.bytes-given;
      map-16 = map.sixteen-given;
      loops = control.fifteen-given;
      writes-back = probe.writes-back;
      reads-back = probe.whole_back;
      frames = frames-whole;
    }

-- THE DEMANDS ARE MET
pub held : Demands
held = record { first = first; second = second; third = nothing-missing }
