-- A session from its opening: the bytes of the frame under way and those of a transfer that is taken never wrap.
use Rattle.std.proofs.Common.{◌≡◌, ℕ, zero, suc, ◌+◌, ◌^◌, ◌<◌, ◌≤◌, Bool, true, false, cond, List, [], ◌∷◌, length, sym, refl, subst, arith}
use Rattle.rules.specs.IfElse.{if_else-all}
use Rattle.sizes.specs.declared.Opening.{Opening}
use Rattle.session_rules.specs.Transfer.{reading_of}
use Rattle.session_rules.specs.declared.Phase.{Phase}
use Rattle.session_rules.specs.declared.Phase.TheVariants.{Fresh, Under, Past}
use Rattle.session_rules.specs.Track.{under_bytes}
use Rattle.session_rules.proofs.Places.{Sized}
use Rattle.session_rules.specs.Refusals.{taken_most}
use Rattle.session_rules.specs.declared.Session.{Session}
use Rattle.session_rules.specs.Refusals.{posted_of}
use Rattle.session_rules.specs.Session.{fresh, took_of, hands_out, handed_of}
use Rattle.session_rules.specs.Call.{Call}
use Rattle.session_rules.specs.Calls.{Offer, refusal, next, after, call_of, next_call}
use Rattle.short_way.proofs.Ready.{ready-able, take-ready, lost-ready}
use Rattle.books.proofs.Sized.{next-sized}
use Rattle.books.proofs.Sound.{took-taken}
use Rattle.books.proofs.Taken.{listed, next-taken, next-refused}
use Rattle.endings.specs.Inner.{bytes_before}

record Bounded (s : Session) : Type 0 where
  places : Sized (posted_of s)
  few : s.rest.taken < 2 ^ 32

module _ (s : Session) (b : Bounded s) where
  met-few : (t : List ℕ) (c : Bool) → s.rest.taken < taken_most → (next_call s (cond c Call.handed (Call.transfer t))).rest.taken < 2 ^ 32
  unfolding took_of handed_of
  met-few t true more = b.few
  met-few t false more = omega (arith, took-taken s t (reading_of s.rest.opening t))

  called-few : (x : Offer) → refusal s x ≡ 0 → (next_call s (call_of s x)).rest.taken < 2 ^ 32
  called-few (Offer.take u t) e =
      let more = (take-ready s b.places b.few (length u) (length t) e).ready.more in
      subst (λ (c : Call). (next_call s c).rest.taken < 2 ^ 32) (sym (listed s u t (hands_out s t) e refl)) (met-few t (hands_out s t) more)
  called-few Offer.lost e = omega (arith, (lost-ready s b.places b.few e).more)
  called-few Offer.close e = b.few

  next-bounded : (x : Offer) → Bounded (next s x)
  next-bounded x = record { places = next-sized s b.places x; few = go (refusal s x) refl }
    where
      go : (k : ℕ) → refusal s x ≡ k → (next s x).rest.taken < 2 ^ 32
      go zero e = subst (λ (q : Session). q.rest.taken < 2 ^ 32) (sym (next-taken s x e)) (called-few x e)
      go (suc k) e = subst (λ (q : Session). q.rest.taken < 2 ^ 32) (sym (next-refused s x k e)) b.few

after-bounded : (s : Session) (xs : List Offer) → Bounded s → Bounded (after s xs)
after-bounded s [] b = b
after-bounded s (x ∷ xs) b = after-bounded (next s x) xs (next-bounded s b x)

before-under : (ph : Phase) (f : Bool) → bytes_before ph f ≤ under_bytes ph
before-under Fresh f = omega arith
before-under (Past g) f = omega arith
before-under (Under r) f = if_else-all (λ (n : ℕ). n ≤ r.bytes) _ _ _ (omega arith) (omega arith)

-- what a take that is not refused leaves room for
pub never-wraps : (o : Opening) (xs : List Offer) (u t : List ℕ) → refusal (after (fresh o) xs) (Offer.take u t) ≡ 0
    → (f : Bool) (n : ℕ) → n ≤ length t → bytes_before (after (fresh o) xs).rest.track.phase f + n < 2 ^ 64
never-wraps o xs u t e f n h =
    let s : Session = after (fresh o) xs in
    let b : Bounded s = after-bounded (fresh o) xs (record { places = refl; few = omega arith }) in
    let q = take-ready s b.places b.few (length u) (length t) e in
    omega (arith, before-under s.rest.track.phase f, (ready-able s q.ready).under, q.short)
