-- Histories of a session: any calls, offered in order with any transfers and any lent buffers.
use Rattle.std.specs.Prelude.{ℕ, zero, suc, List, [], ◌∷◌, length}
use Rattle.rules.specs.Numbered.{first_row}
use Rattle.session_rules.specs.declared.Session.{Session}
use Rattle.session_rules.specs.Refusals.{take_rows, lost_rows, close_rows}
use Rattle.session_rules.specs.declared.Outcome.{Outcome}
use Rattle.session_rules.specs.Session.{take_of, buffer_of, took_of, handed_of, lost_of, missed_of, close_of, shut_of}
use Rattle.session_rules.specs.Call.{Ask, Call}

-- a call as it is offered: a transfer comes with the buffer that is lent
pub data Offer : Type 0 where
  take : List ℕ → List ℕ → Offer
  lost : Offer
  close : Offer

-- the number by which the session refuses it, 0 where it is taken or a frame is handed out
abbrev pub refusal : Session → Offer → ℕ
refusal s (take buffer t) = first_row (take_rows s (length buffer) (length t))
refusal s lost = first_row (lost_rows s)
refusal s close = first_row (close_rows s)

-- the session after it
abbrev pub next : Session → Offer → Session
next s (take buffer t) = (take_of s (length buffer) t).session
next s lost = (lost_of s).session
next s close = (close_of s).session

abbrev pub after : Session → List Offer → Session
after s [] = s
after s (x ∷ xs) = after (next s x) xs

-- THE LIST: the calls taken are those that were not refused; where the session answers with a hand-out, its mark stands in place of the transfer
abbrev pub call_by : Outcome → List ℕ → Call
call_by (Outcome.Refused k) t = Call.transfer t
call_by (Outcome.Taken a) t = Call.transfer t
call_by (Outcome.Handed x) t = Call.handed

abbrev pub call_of : Session → Offer → Call
call_of s (take buffer t) = call_by (take_of s (length buffer) t).outcome t
call_of s lost = Call.lost
call_of s close = Call.close

abbrev pub unless : ℕ → Call → List Call → List Call
unless zero c cs = c ∷ cs
unless (suc k) c cs = cs

abbrev pub taken : Session → List Offer → List Call
taken s [] = []
taken s (x ∷ xs) = unless (refusal s x) (call_of s x) (taken (next s x) xs)

-- a call taken or a frame handed out, and calls one after the other
abbrev pub next_call : Session → Call → Session
next_call s (Call.transfer t) = (took_of s t).session
next_call s Call.lost = missed_of s
next_call s Call.handed = (handed_of s).session
next_call s Call.close = (shut_of s).session

abbrev pub run : Session → List Call → Session
run s [] = s
run s (c ∷ cs) = run (next_call s c) cs

-- ONE BUFFER that nobody else writes: the calls offered with it, and what it holds after them
abbrev pub offer_with : List ℕ → Ask → Offer
offer_with b (Ask.transfer t) = Offer.take b t
offer_with b Ask.lost = Offer.lost
offer_with b Ask.close = Offer.close

abbrev pub buffer_next : Session → List ℕ → Ask → List ℕ
buffer_next s b (Ask.transfer t) = buffer_of s b t
buffer_next s b Ask.lost = b
buffer_next s b Ask.close = b

abbrev pub offers : Session → List ℕ → List Ask → List Offer
offers s b [] = []
offers s b (k ∷ ks) = offer_with b k ∷ offers (next s (offer_with b k)) (buffer_next s b k) ks

abbrev pub buffer_after : Session → List ℕ → List Ask → List ℕ
buffer_after s b [] = b
buffer_after s b (k ∷ ks) = buffer_after (next s (offer_with b k)) (buffer_next s b k) ks
