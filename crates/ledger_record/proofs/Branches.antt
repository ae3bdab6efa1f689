-- What each way through a call answers and leaves: refused by 54, refused by the session, or not refused.
use Rattle.std.specs.Prelude.{Err}
use Prim.Native.Nat.{ℕ}
use mathlib.Core.Path.{◌≡◌, sym, ap, ◌∙◌}
use mathlib.Core.Bool.{Bool, true, false}
use mathlib.Core.List.{List}
use lib.ListN.{length}
use Rattle.session_rules.specs.declared.Ledger.{Ledger}
use Rattle.session_rules.specs.Ledger.{shown_of}
use Rattle.session_rules.specs.declared.Rest.{Rest}
use Rattle.session.specs.declared.RestTaken.{RestTaken}
use Rattle.session.specs.declared.RestReported.{RestReported}
use Rattle.session.specs.declared.RestClosed.{RestClosed}
use Rattle.session_rules.specs.declared.Outcome.{Outcome}
use Rattle.session_rules.specs.declared.Taken.{Taken}
use Rattle.session_rules.specs.declared.Reported.{Reported}
use Rattle.session_rules.specs.declared.Closed.{Closed}
use Rattle.session_rules.specs.Session.{take_of, buffer_of, lost_of, close_of}
use Rattle.session.specs.Inner.{whole_of, taken_with, reported_with, closed_with}
use Rattle.places.specs.Places.{record_of, numbers_in, broken54}
use Rattle.ledger_record.specs.Recorded.{session_of, record_in, left, is_refused, is_refused_report, is_refused_closing, rest_taken, rest_reported, rest_closed, take_by, take_left_by, take_buffer_by, take_in, take_left, take_buffer, lost_by, lost_left_by, lost_in, lost_left, close_by, close_left_by, close_in, close_left}

-- ---- the record of a session
pub shows : (rest : Rest) (ns : List ℕ) (l : Ledger) (r : List ℕ) → l ≡ shown_of (record { numbers = ns; last = rest.last }) rest.track.phase → r ≡ record_of l.numbers → r ≡ record_in (whole_of rest ns)
shows rest ns l r e f = f ∙ ap (λ (m : Ledger). record_of m.numbers) e

-- ---- take
module _ (r : List ℕ) (rest : Rest) (b t : List ℕ) (x : Bool) (e : x ≡ broken54 r) where
  pub take-54 : x ≡ true
      → (record { rest = rest; outcome = Outcome.Refused 54 } ≡ take_in r rest (length b) t) × ((r ≡ take_left r rest (length b) t) × (b ≡ take_buffer r rest b t))
  unfolding take_in take_left take_buffer
  take-54 p =
      let q : true ≡ broken54 r = sym p ∙ e in
      (ap (λ (z : Bool). take_by z r rest (length b) t) q, (ap (λ (z : Bool). take_left_by z r rest (length b) t) q, ap (λ (z : Bool). take_buffer_by z r rest b t) q))

  module _ (p : x ≡ false) (ns ms c : List ℕ) (n : ns ≡ numbers_in r) (y : RestTaken) (took : taken_with y ms ≡ take_of (whole_of rest ns) (length b) t) (wrote : c ≡ buffer_of (whole_of rest ns) b t) where
    abbrev z : Taken
    z = take_of (session_of r rest) (length b) t

    fine : false ≡ broken54 r
    fine = sym p ∙ e

    took₀ : taken_with y ms ≡ z
    took₀ = took ∙ ap (λ (l : List ℕ). take_of (whole_of rest l) (length b) t) n

    answers : y ≡ take_in r rest (length b) t
    unfolding take_in
    answers = ap rest_taken took₀ ∙ ap (λ (w : Bool). take_by w r rest (length b) t) fine

    writes : c ≡ take_buffer r rest b t
    unfolding take_buffer
    writes = wrote ∙ ap (λ (l : List ℕ). buffer_of (whole_of rest l) b t) n ∙ ap (λ (w : Bool). take_buffer_by w r rest b t) fine

    leaves : (w : Bool) → w ≡ is_refused y.outcome → left w r (whole_of y.rest ms) ≡ take_left r rest (length b) t
    unfolding take_left
    leaves w f =
        ap (λ (v : Bool). left v r (whole_of y.rest ms)) f
        ∙ ap (λ (v : Taken). left (is_refused v.outcome) r v.session) took₀
        ∙ ap (λ (v : Bool). take_left_by v r rest (length b) t) fine

    pub take-refused : (w : Bool) → w ≡ is_refused y.outcome → w ≡ true
        → (y ≡ take_in r rest (length b) t) × ((r ≡ take_left r rest (length b) t) × (c ≡ take_buffer r rest b t))
    take-refused w f g = (answers, (leaves true (sym g ∙ f), writes))

    pub take-met : (w : Bool) (s : List ℕ) → w ≡ is_refused y.outcome → w ≡ false → s ≡ record_in (whole_of y.rest ms)
        → (y ≡ take_in r rest (length b) t) × ((s ≡ take_left r rest (length b) t) × (c ≡ take_buffer r rest b t))
    take-met w s f g h = (answers, (h ∙ leaves false (sym g ∙ f), writes))

-- ---- a lost report
module _ (r : List ℕ) (rest : Rest) (x : Bool) (e : x ≡ broken54 r) where
  pub lost-54 : x ≡ true → (record { rest = rest; report = Err 54 } ≡ lost_in r rest) × (r ≡ lost_left r rest)
  unfolding lost_in lost_left
  lost-54 p = let q : true ≡ broken54 r = sym p ∙ e in (ap (λ (z : Bool). lost_by z r rest) q, ap (λ (z : Bool). lost_left_by z r rest) q)

  module _ (p : x ≡ false) (ns ms : List ℕ) (n : ns ≡ numbers_in r) (y : RestReported) (told : reported_with y ms ≡ lost_of (whole_of rest ns)) where
    fine-lost : false ≡ broken54 r
    fine-lost = sym p ∙ e

    told₀ : reported_with y ms ≡ lost_of (session_of r rest)
    told₀ = told ∙ ap (λ (l : List ℕ). lost_of (whole_of rest l)) n

    tells : y ≡ lost_in r rest
    unfolding lost_in
    tells = ap rest_reported told₀ ∙ ap (λ (w : Bool). lost_by w r rest) fine-lost

    leaves-lost : (w : Bool) → w ≡ is_refused_report y.report → left w r (whole_of y.rest ms) ≡ lost_left r rest
    unfolding lost_left
    leaves-lost w f =
        ap (λ (v : Bool). left v r (whole_of y.rest ms)) f
        ∙ ap (λ (v : Reported). left (is_refused_report v.report) r v.session) told₀
        ∙ ap (λ (v : Bool). lost_left_by v r rest) fine-lost

    pub lost-refused : (w : Bool) → w ≡ is_refused_report y.report → w ≡ true → (y ≡ lost_in r rest) × (r ≡ lost_left r rest)
    lost-refused w f g = (tells, leaves-lost true (sym g ∙ f))

    pub lost-noted : (w : Bool) (s : List ℕ) → w ≡ is_refused_report y.report → w ≡ false → s ≡ record_in (whole_of y.rest ms) → (y ≡ lost_in r rest) × (s ≡ lost_left r rest)
    lost-noted w s f g h = (tells, h ∙ leaves-lost false (sym g ∙ f))

-- ---- close
module _ (r : List ℕ) (rest : Rest) (x : Bool) (e : x ≡ broken54 r) where
  pub close-54 : x ≡ true → (record { rest = rest; closing = Err 54 } ≡ close_in r rest) × (r ≡ close_left r rest)
  unfolding close_in close_left
  close-54 p = let q : true ≡ broken54 r = sym p ∙ e in (ap (λ (z : Bool). close_by z r rest) q, ap (λ (z : Bool). close_left_by z r rest) q)

  module _ (p : x ≡ false) (ns ms : List ℕ) (n : ns ≡ numbers_in r) (y : RestClosed) (shut : closed_with y ms ≡ close_of (whole_of rest ns)) where
    fine-closed : false ≡ broken54 r
    fine-closed = sym p ∙ e

    shut₀ : closed_with y ms ≡ close_of (session_of r rest)
    shut₀ = shut ∙ ap (λ (l : List ℕ). close_of (whole_of rest l)) n

    shuts : y ≡ close_in r rest
    unfolding close_in
    shuts = ap rest_closed shut₀ ∙ ap (λ (w : Bool). close_by w r rest) fine-closed

    leaves-closed : (w : Bool) → w ≡ is_refused_closing y.closing → left w r (whole_of y.rest ms) ≡ close_left r rest
    unfolding close_left
    leaves-closed w f =
        ap (λ (v : Bool). left v r (whole_of y.rest ms)) f
        ∙ ap (λ (v : Closed). left (is_refused_closing v.closing) r v.session) shut₀
        ∙ ap (λ (v : Bool). close_left_by v r rest) fine-closed

    pub close-refused : (w : Bool) → w ≡ is_refused_closing y.closing → w ≡ true → (y ≡ close_in r rest) × (r ≡ close_left r rest)
    close-refused w f g = (shuts, leaves-closed true (sym g ∙ f))

    pub close-closed : (w : Bool) (s : List ℕ) → w ≡ is_refused_closing y.closing → w ≡ false → s ≡ record_in (whole_of y.rest ms) → (y ≡ close_in r rest) × (s ≡ close_left r rest)
    close-closed w s f g h = (shuts, h ∙ leaves-closed false (sym g ∙ f))
