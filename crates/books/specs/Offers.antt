-- ANY OFFERS, from the opening and the offers alone: which are refused, and by which number (document 01, "Numbers", 50 to 53 and 55); how the others stand in the list; and what every
-- offer answers and writes. Nothing of the session. `cs` is the list so far.
use Rattle.session_rules.specs.Options.{Report, Closing}
use Rattle.std.specs.Prelude.{ℕ, zero, suc, ◌+◌, cond, not, List, [], ◌∷◌, ◌++◌, length, ltb, eqb, Err, Ok}
use Rattle.rules.specs.Numbered.{Row, row, first_row}
use Rattle.sizes.specs.declared.Opening.{Opening}
use Rattle.sizes.specs.Sizes.{sizes_broken}
use Rattle.session_rules.specs.Rule50.{transfer_most}
use Rattle.session_rules.specs.Refusals.{taken_most}
use Rattle.session_rules.specs.declared.Outcome.{Outcome}
use Rattle.session_rules.specs.Call.{Call, transfer, lost, handed, close}
use Rattle.session_rules.specs.Calls.{Offer, unless}
use Rattle.books.specs.Rule.{is_open}
use Rattle.books.specs.Answer.{hands, outcome_of, ending_of, written_of}

-- TRANSFERS TAKEN: idle, unreadable and lost ones too; a mark and close are none
abbrev pub taken_in : List Call → ℕ
taken_in [] = 0
taken_in (transfer t ∷ cs) = 1 + taken_in cs
taken_in (lost ∷ cs) = 1 + taken_in cs
taken_in (handed ∷ cs) = taken_in cs
taken_in (close ∷ cs) = 0

-- WHAT REFUSES AN OFFER, in the order in which it is checked: 50 by the sizes, which nothing else of a session from its opening can break; 53 closed; 52 as many transfers taken as there
-- can be; 51 the buffer shorter than the frame size; 55 a transfer over 65,536 bytes. A lost report meets 50, 53 and 52, close 50 and 53.
abbrev pub rows_of : Opening → List Call → Offer → List Row
rows_of o cs (Offer.take buffer t) =
    row 50 (sizes_broken o)
    ∷ row 53 (not (is_open cs))
    ∷ row 52 (eqb (taken_in cs) taken_most)
    ∷ row 51 (ltb (length buffer) o.frame)
    ∷ row 55 (ltb transfer_most (length t))
    ∷ []
rows_of o cs Offer.lost = row 50 (sizes_broken o) ∷ row 53 (not (is_open cs)) ∷ row 52 (eqb (taken_in cs) taken_most) ∷ []
rows_of o cs Offer.close = row 50 (sizes_broken o) ∷ row 53 (not (is_open cs)) ∷ []

-- its number; 0 where nothing refuses it
abbrev pub refused_by : Opening → List Call → Offer → ℕ
refused_by o cs x = first_row (rows_of o cs x)

-- THE LIST: an offer that is refused is no part of it; the others stand in it, and the mark where a frame is handed out stands in place of the transfer
abbrev pub listed_as : Opening → List Call → Offer → Call
listed_as o cs (Offer.take buffer t) = cond (hands o cs t) handed (transfer t)
listed_as o cs Offer.lost = lost
listed_as o cs Offer.close = close

abbrev pub list_from : Opening → List Call → List Offer → List Call
list_from o cs [] = cs
list_from o cs (x ∷ xs) = list_from o (cs ++ unless (refused_by o cs x) (listed_as o cs x) []) xs

abbrev pub list_of : Opening → List Offer → List Call
list_of o xs = list_from o [] xs

-- EVERY OFFER, refused or not: what it answers, and what the buffer holds after it
abbrev pub refused_or : {A : Type 0} → ℕ → (ℕ → A) → A → A
refused_or zero refused₀ x = x
refused_or (suc k) refused₀ x = refused₀ (suc k)

abbrev pub take_says : Opening → List Call → List ℕ → List ℕ → Outcome
take_says o cs buffer t = refused_or (refused_by o cs (Offer.take buffer t)) Outcome.Refused (outcome_of o cs t)

abbrev pub lost_says : Opening → List Call → Report
lost_says o cs = refused_or (refused_by o cs Offer.lost) Err (Ok tt)

abbrev pub close_says : Opening → List Call → Closing
close_says o cs = refused_or (refused_by o cs Offer.close) Err (Ok (ending_of o cs))

abbrev pub take_leaves : Opening → List Call → List ℕ → List ℕ → List ℕ
take_leaves o cs buffer t = refused_or (refused_by o cs (Offer.take buffer t)) (λ k. buffer) (written_of o cs t buffer)
