-- THE PACKETS OF ONE URB, a stride apart: the calls one by one, until one has more to tell than idle or kept.
use Rattle.std.specs.Prelude.{ℕ, ◌+◌, Bool, true, false, ◌&&◌, List, [], ◌∷◌, length, take, drop, leb, ltb, eqb}
use Rattle.rules.specs.IfElse.{if_else}
use Rattle.session_words.specs.declared.Told.{Told}
use Rattle.session_words.specs.Told.{refused_told, plain_told}
use Rattle.host_session.specs.Calls.{Left, Said, take_in, lost_in}

-- a packet of n bytes: the first n of those that are left, or lost where n is over the stride or so many are not there
abbrev pub is_there : ℕ → ℕ → List ℕ → Bool
is_there stride n bytes = leb n stride && leb n (length bytes)

-- a lost packet is reported; it has nothing to tell but a refusal
abbrev pub lost_left : Said → List ℕ → Left
lost_left x buffer = record { told = refused_told x.number; numbers = x.numbers; words = x.words; buffer = buffer }

abbrev pub packet_by : Bool → ℕ → List ℕ → List ℕ → List ℕ → List ℕ → Left
packet_by true n bytes m w buffer = take_in m w buffer (take n bytes)
packet_by false n bytes m w buffer = lost_left (lost_in m w) buffer

unfoldable pub packet_in : ℕ → ℕ → List ℕ → List ℕ → List ℕ → List ℕ → Left
packet_in stride n bytes m w buffer = packet_by (is_there stride n bytes) n bytes m w buffer

-- idle or kept, nothing was ended and nothing refused
unfoldable pub is_quiet : Told → Bool
is_quiet x = eqb x.refused 0 && (eqb x.ended 0 && leb x.fate 1)

-- a packet that is refused, or that is to be offered again, is not done with
unfoldable pub done_with : Told → ℕ
done_with x = if_else (eqb x.refused 0) (if_else (ltb x.flags 4) 1 0) 0

pub record Packets : Type 0 where
  pub left : Left
  pub taken : ℕ

-- where all were quiet, nothing is told
abbrev pub all_quiet : List ℕ → List ℕ → List ℕ → ℕ → Packets
all_quiet m w buffer k = record { left = record { told = plain_told 0 0 0; numbers = m; words = w; buffer = buffer }; taken = k }

-- from a packet that is not quiet
abbrev pub to_tell : Left → ℕ → Packets
to_tell x k = record { left = x; taken = k + done_with x.told }

-- the packets left, with their bytes; so many are done with
abbrev pub packets_from : List ℕ → ℕ → List ℕ → List ℕ → List ℕ → List ℕ → ℕ → Packets
packets_from [] stride bytes m w buffer k = all_quiet m w buffer k
packets_from (n ∷ ns) stride bytes m w buffer k =
    if_else (is_quiet (packet_in stride n bytes m w buffer).told)
    (packets_from ns stride (drop stride bytes) (packet_in stride n bytes m w buffer).numbers (packet_in stride n bytes m w buffer).words (packet_in stride n bytes m w buffer).buffer (k + 1))
    (to_tell (packet_in stride n bytes m w buffer) k)

unfoldable pub packets_in : List ℕ → List ℕ → List ℕ → List ℕ → ℕ → List ℕ → Packets
packets_in m w buffer bytes stride lengths = packets_from lengths stride bytes m w buffer 0
