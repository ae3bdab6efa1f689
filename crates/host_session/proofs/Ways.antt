-- What each call from C answers, one law for each way through the code.
use Prim.Native.Nat.{ℕ, ◌%◌, ◌<◌, ◌^◌}
use mathlib.Core.Path.{◌≡◌, refl, sym, ap, ◌∙◌}
use mathlib.Core.Bool.{Bool, true, false, ◌||◌, true≢false}
use mathlib.Core.List.{List, []}
use native.Mathlib.Omega.{arith}
use native.Mathlib.Nat.{mod-eq_of_lt}
use lib.ListN.{length, get_or}
use lib.ListN.{length-set}
use Rattle.session_rules.specs.Accounts.{number_count}
use Rattle.sizes.specs.declared.Opening.{Opening}
use Rattle.session_rules.specs.declared.Account.{Account}
use Rattle.session_rules.specs.declared.Run.{Run}
use Rattle.session_rules.specs.declared.Rest.{Rest}
use Rattle.session_rules.specs.declared.Session.{Session}
use Rattle.session_rules.specs.declared.Taken.{Taken}
use Rattle.session_rules.specs.Transfer.{length_at}
use Rattle.session_rules.specs.declared.Opened.{Opened}
use Rattle.session_rules.specs.declared.Reported.{Reported}
use Rattle.session_rules.specs.declared.Closed.{Closed}
use Rattle.session_rules.specs.Refusals.{record_broken, ledger_of}
use Rattle.session_rules.specs.Session.{open_of, take_of, buffer_of, lost_of, close_of}
use Rattle.rule_50.specs.Inner.{rest_broken, posted_broken}
use Rattle.rule_50.proofs.Parts.{record-parts}
use Rattle.session_rules.specs.Calls.{Offer}
use Rattle.books.proofs.Sized.{next-sized}
use Rattle.short_way.specs.Inner.{whole_of, kept_with, GoesOn}
use Rattle.short_way.proofs.Kept.{kept, fits, free}
use Rattle.short_way.proofs.Unbroken.{entered-unbroken}
use Rattle.session_words.specs.declared.Read.{Read}
use Rattle.session_words.specs.declared.Read.TheVariants.{Broken, Laid}
use Rattle.session_words.specs.Words.{words_of}
use Rattle.session_words.specs.Reading.{rest_in, read_of}
use Rattle.session_words.specs.Told.{plain_told, report_told, closing_told}
use Rattle.session_words.proofs.Back.{spare-clear}
use Rattle.host_session.specs.Calls.{left_by, unchanged, took_by, take_by, take_in, said_by, lost_by, lost_in, close_by, close_in, opened_by, open_in, places_of, shown_by, ledger_by, ledger_in}
use Rattle.host_session.specs.Inner.{Sound, Goes}

-- ---- take
module _ (m w b t : List ℕ) where
  pub broken : (x : Read) (k : ℕ) → x ≡ read_of w → x ≡ Broken k → take_in m w b t ≡ unchanged k m w b
  unfolding take_in
  broken x k e q = ap (λ (y : Read). take_by y m w b t) (sym e ∙ q)

  pub laid : (x : Read) (r : Rest) → x ≡ read_of w → x ≡ Laid r → take_in m w b t ≡ took_by (take_of (whole_of r m) (length b) t) (buffer_of (whole_of r m) b t)
  unfolding take_in
  laid x r e q = ap (λ (y : Read). take_by y m w b t) (sym e ∙ q)

  -- the short way is the call, and it is kept
  pub short : (r y : Rest) (m' w' b' : List ℕ) → read_of w ≡ Laid r → kept_with y m' ≡ take_of (whole_of r m) (length b) t → w' ≡ words_of y → b' ≡ buffer_of (whole_of r m) b t →
      take_in m w b t ≡ record { told = plain_told 0 1 0; numbers = m'; words = w'; buffer = b' }
  short r y m' w' b' e k p q = laid (read_of w) r refl e ∙ rw (p, q) (ap (λ (x : Taken). took_by x (buffer_of (whole_of r m) b t)) (sym k))

-- what is posted stays unbroken by it
module _ (s : Session) (r : Run) (room : ℕ) (t : List ℕ) (g : GoesOn s r room t) (few : s.rest.taken < 2 ^ 32) where
  pub few-stays : (y : Rest) (m' : List ℕ) → kept_with y m' ≡ take_of s room t → y.taken < 2 ^ 32
  few-stays y m' e =
      let q = ap (λ (x : Taken). x.session.rest.taken) (e ∙ sym (kept s r room t g few _ _ _ refl refl refl)) in
      let h = (free s r room t g few).ready.more in
      omega (arith, q, h)

  pub places-stay : (y : Rest) (m' : List ℕ) → kept_with y m' ≡ take_of s room t → length m' ≡ number_count
  places-stay y m' e =
      let q = ap (λ (x : Taken). x.session.numbers) (e ∙ sym (kept s r room t g few _ _ _ refl refl refl)) in
      rw (q, length-set, length-set) g.places

  pub posted-stays : (y : Rest) (m' : List ℕ) → kept_with y m' ≡ take_of s room t → posted_broken s.numbers s.rest.taken ≡ false → posted_broken m' y.taken ≡ false
  posted-stays y m' e p =
      let q = e ∙ sym (kept s r room t g few _ _ _ refl refl refl) in
      let h = (fits s r room t g few).header in
      let l = (free s r room t g few).short in
      rw (ap (λ (x : Taken). x.session.numbers) q, ap (λ (x : Taken). x.session.rest.taken) q)
      (entered-unbroken s.numbers Account.Headers (length_at t) s.rest.taken (omega (arith, h, l)) p)

pub sound-stays : (y : Rest) (m' w' : List ℕ) → y.taken < 2 ^ 32 → w' ≡ words_of y → posted_broken m' y.taken ≡ false → Sound m' w'
unfolding words_of rest_in
sound-stays y m' w' few e p = record { spare = rw e (spare-clear y); posted = rw (e, mod-eq_of_lt few) p }

few_words : (w : List ℕ) → (rest_in w).taken < 2 ^ 32
unfolding rest_in
few_words w = let h : get_or w 13 0 % 4294967296 < 2 ^ 32 = omega arith in h

-- no is not yes
pub never : {A : Type 0} → false ≡ true → A
never q = absurd (true≢false (sym q))

pub nothing : (m w b t : List ℕ) (known : Bool) → length m ≡ number_count → Goes false m w b t m w b known
nothing m w b t known e = record { yes = never; sound = never; no = λ z. (refl, (refl, refl)); places = e }

-- the short way, once nothing refuses it
pub gone : (m w b t m' w' b' : List ℕ) (known : Bool) (rest y : Rest) (run : Run) → rest ≡ rest_in w → read_of w ≡ Laid (rest_in w) →
    GoesOn (whole_of rest m) run (length b) t → (known ≡ true → posted_broken m (rest_in w).taken ≡ false) →
    kept_with y m' ≡ take_of (whole_of rest m) (length b) t → w' ≡ words_of y → b' ≡ buffer_of (whole_of rest m) b t → Goes true m w b t m' w' b' known
gone m w b t m' w' b' known rest y run e l g p k q z =
    let few : rest.taken < 2 ^ 32 = rw e (few_words w) in
    record {
      yes = λ a. short m w b t rest y m' w' b' (l ∙ ap Laid (sym e)) k q z;
      sound = λ a c. sound-stays y m' w' (few-stays (whole_of rest m) run (length b) t g few y m' k) q (posted-stays (whole_of rest m) run (length b) t g few y m' k (rw e (p c)));
      no = λ a. never (sym a);
      places = places-stay (whole_of rest m) run (length b) t g few y m' k;
    }

-- ---- lost, close and open
module _ (m w : List ℕ) where
  pub lost-broken : (x : Read) (k : ℕ) → x ≡ read_of w → x ≡ Broken k → lost_in m w ≡ record { number = k; numbers = m; words = w }
  unfolding lost_in
  lost-broken x k e q = ap (λ (y : Read). lost_by y m w) (sym e ∙ q)

  pub lost-laid : (x : Read) (r : Rest) (y : Reported) → x ≡ read_of w → x ≡ Laid r → y ≡ lost_of (whole_of r m) → lost_in m w ≡ said_by (report_told y.report) y.session
  unfolding lost_in
  lost-laid x r y e q z = ap (λ (y : Read). lost_by y m w) (sym e ∙ q) ∙ rw z refl

  pub close-broken : (x : Read) (k : ℕ) → x ≡ read_of w → x ≡ Broken k → close_in m w ≡ unchanged k m w []
  unfolding close_in
  close-broken x k e q = ap (λ (y : Read). close_by y m w) (sym e ∙ q)

  pub close-laid : (x : Read) (r : Rest) (y : Closed) → x ≡ read_of w → x ≡ Laid r → y ≡ close_of (whole_of r m) → close_in m w ≡ left_by (closing_told y.closing) y.session []
  unfolding close_in
  close-laid x r y e q z = ap (λ (y : Read). close_by y m w) (sym e ∙ q) ∙ rw z refl

pub opened : (o : Opening) (room : ℕ) (x : Opened) → x ≡ open_of o room → open_in o room ≡ opened_by x
unfolding open_in
opened o room x e = rw e

-- ---- the ledger
module _ (m w to : List ℕ) where
  pub ledger-broken : (x : Read) (k : ℕ) → x ≡ read_of w → x ≡ Broken k → ledger_in m w to ≡ record { number = k; places = to }
  unfolding ledger_in
  ledger-broken x k e q = ap (λ (y : Read). ledger_by y m to) (sym e ∙ q)

  ledger-by : (x : Read) (r : Rest) (b : Bool) → x ≡ read_of w → x ≡ Laid r → b ≡ record_broken (whole_of r m) → ledger_in m w to ≡ shown_by b (whole_of r m) to
  unfolding ledger_in
  ledger-by x r b e q z = ap (λ (y : Read). ledger_by y m to) (sym e ∙ q) ∙ rw z refl

  pub ledger-50 : (x : Read) (r : Rest) (b : Bool) → x ≡ read_of w → x ≡ Laid r → b ≡ record_broken (whole_of r m) → b ≡ true → ledger_in m w to ≡ record { number = 50; places = to }
  ledger-50 x r b e q z p = ledger-by x r b e q z ∙ rw p refl

  pub ledger-shown : (x : Read) (r : Rest) (b : Bool) → x ≡ read_of w → x ≡ Laid r → b ≡ record_broken (whole_of r m) → b ≡ false →
      ledger_in m w to ≡ record { number = 0; places = places_of (ledger_of (whole_of r m)).numbers }
  ledger-shown x r b e q z p = ledger-by x r b e q z ∙ rw p refl

-- 50, by the record's two parts
module _ (r : Rest) (m : List ℕ) (places : length m ≡ number_count) (a : Bool) (e : a ≡ rest_broken r.opening r.track.phase r.taken) where
  parts : record_broken (whole_of r m) ≡ (rest_broken r.opening r.track.phase r.taken || posted_broken m r.taken)
  parts = record-parts r.opening r.track.phase m r.last r.taken places

  pub is-rest : a ≡ true → true ≡ record_broken (whole_of r m)
  is-rest p = rw (parts, ← e, p)

  pub is-posted : a ≡ false → (b : Bool) → b ≡ posted_broken m r.taken → b ≡ record_broken (whole_of r m)
  is-posted p b q = rw (parts, ← e, p) q

-- ---- all numbers are kept
pub take_places : (r : Rest) (m b t m' : List ℕ) (x : Taken) → length m ≡ number_count → x ≡ take_of (whole_of r m) (length b) t → m' ≡ x.session.numbers → length m' ≡ number_count
take_places r m b t m' x e p q = rw (q, p) (next-sized (whole_of r m) e (Offer.take b t))

pub lost-places : (r : Rest) (m m' : List ℕ) (x : Reported) → length m ≡ number_count → x ≡ lost_of (whole_of r m) → m' ≡ x.session.numbers → length m' ≡ number_count
lost-places r m m' x e p q = rw (q, p) (next-sized (whole_of r m) e Offer.lost)
