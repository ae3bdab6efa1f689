-- EVERY OFFER, refused or not: what it answers, what the buffer holds and what the session is after it, from the opening and the offers alone.
use Rattle.std.specs.Prelude.{Err, Ok}
use Prim.Native.Nat.{ℕ, zero, suc}
use mathlib.Core.Path.{◌≡◌, refl, sym, ◌∙◌, ap, subst}
use mathlib.Core.List.{List}
use mathlib.Core.Logic.{◌↔◌}
use lib.ListN.{length}
use Rattle.sizes.specs.declared.Opening.{Opening}
use Rattle.session_rules.specs.declared.HandOut.{HandOut}
use Rattle.session_rules.specs.declared.Session.{Session}
use Rattle.session_rules.specs.declared.Outcome.{Outcome}
use Rattle.session_rules.specs.Session.{fresh, take_by, take_of, buffer_by, buffer_of, lost_by, lost_of, close_by, close_of}
use Rattle.session_rules.specs.Call.{Call}
use Rattle.session_rules.specs.Calls.{Offer, refusal, next, after, next_call}
use Rattle.books.specs.Answer.{outcome_of, ending_of, written_of}
use Rattle.books.specs.HandedOut.{HandsOut}
use Rattle.books.specs.Offers.{refused_by, listed_as, list_of, refused_or, take_says, lost_says, close_says, take_leaves}
use Rattle.books.proofs.Taken.{next-refused}
use Rattle.books.proofs.Answers.{handed-answer}
use Rattle.books.proofs.ByList.{transfer-answers, transfer-writes, lost-answers, close-answers}
use Rattle.books.proofs.HandedOut.{handed_out_lem}
use Rattle.books.proofs.Offers.{list-is, refused-listed, next-listed}

-- of a value that is the refusal's or the list's, by the session's own number
by_number : {A : Type 0} (v x : A) (refused₀ : ℕ → A) (n m : ℕ) → n ≡ m → (n ≡ 0 → v ≡ x) → ((k : ℕ) → n ≡ suc k → v ≡ refused₀ (suc k)) → v ≡ refused_or m refused₀ x
by_number v x refused₀ n m e met not-met = go n refl ∙ ap (λ (k : ℕ). refused_or k refused₀ x) e
  where
    go : (k : ℕ) → n ≡ k → v ≡ refused_or n refused₀ x
    go zero q = met q ∙ ap (λ (k : ℕ). refused_or k refused₀ x) (sym q)
    go (suc k) q = not-met k q ∙ ap (λ (k : ℕ). refused_or k refused₀ x) (sym q)

module _ (o : Opening) (xs : List Offer) where
  abbrev here : Session
  here = after (fresh o) xs

  abbrev cs : List Call
  cs = list_of o xs

  pub take-says : (b t : List ℕ) → (take_of here (length b) t).outcome ≡ take_says o cs b t
  unfolding take_of
  take-says b t =
      let x : Offer = Offer.take b t in
      by_number _ (outcome_of o cs t) Outcome.Refused (refusal here x) (refused_by o cs x) (refused-listed o xs x)
      (λ e. transfer-answers o xs b t e ∙ ap (λ (l : List Call). outcome_of o l t) (list-is o xs))
      (λ k e. ap (λ (n : ℕ). (take_by n here t).outcome) e)

  pub lost-says : (lost_of here).report ≡ lost_says o cs
  unfolding lost_of
  lost-says =
      by_number _ (Ok tt) Err (refusal here Offer.lost) (refused_by o cs Offer.lost) (refused-listed o xs Offer.lost)
      (λ e. lost-answers o xs e)
      (λ k e. ap (λ (n : ℕ). (lost_by n here).report) e)

  pub close-says : (close_of here).closing ≡ close_says o cs
  unfolding close_of
  close-says =
      by_number _ (Ok (ending_of o cs)) Err (refusal here Offer.close) (refused_by o cs Offer.close) (refused-listed o xs Offer.close)
      (λ e. close-answers o xs e ∙ ap (λ (l : List Call). Ok (ending_of o l)) (list-is o xs))
      (λ k e. ap (λ (n : ℕ). (close_by n here).closing) e)

  pub take-leaves : (b t : List ℕ) → buffer_of here b t ≡ take_leaves o cs b t
  unfolding buffer_of
  take-leaves b t =
      let x : Offer = Offer.take b t in
      by_number _ (written_of o cs t b) (λ k. b) (refusal here x) (refused_by o cs x) (refused-listed o xs x)
      (λ e. transfer-writes o xs b t e ∙ ap (λ (l : List Call). written_of o l t b) (list-is o xs))
      (λ k e. ap (λ (n : ℕ). buffer_by n here b t) e)

  pub session-after : (x : Offer) → next here x ≡ refused_or (refused_by o cs x) (λ k. here) (next_call here (listed_as o cs x))
  session-after x =
      by_number _ (next_call here (listed_as o cs x)) (λ k. here) (refusal here x) (refused_by o cs x) (refused-listed o xs x)
      (λ e. next-listed o xs x e)
      (λ k e. next-refused here x k e)

  pub handed-where : (b t : List ℕ) (x : HandOut) → ((take_of here (length b) t).outcome ≡ Outcome.Handed x) ↔ ((refused_by o cs (Offer.take b t) ≡ 0) × HandsOut o cs t x)
  handed-where b t x = (
    λ e.
        let ok : refusal here (Offer.take b t) ≡ 0 = (handed-answer here b t x e).ok in
        (sym (refused-listed o xs (Offer.take b t)) ∙ ok, subst (λ (l : List Call). HandsOut o l t x) (list-is o xs) ((handed_out_lem o xs b t x ok).0 e)),
    λ p. (handed_out_lem o xs b t x (refused-listed o xs (Offer.take b t) ∙ p.0)).1 (subst (λ (l : List Call). HandsOut o l t x) (sym (list-is o xs)) p.1),
  )
