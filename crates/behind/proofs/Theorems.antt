-- DAMAGE STAYS BEHIND (document 02, "Fourteen"): of any two session records, of any two histories from fresh sessions, in the accounts, and as the owner reads it.
use Prim.Native.Nat.{ℕ, ◌+◌, ◌≤◌}
use mathlib.Core.Path.{◌≡◌, refl, sym, ap, subst, ◌∙◌}
use mathlib.Core.Bool.{Bool, true, false, not, true≢false}
use mathlib.Core.List.{List, [], ◌∷◌, ◌++◌, map, append_assoc}
use native.Mathlib.Omega.{arith}
use Rattle.sizes.specs.declared.Opening.{Opening}
use Rattle.session_rules.specs.declared.Header.{Header}
use Rattle.session_rules.specs.declared.Reading.TheVariants.{Readable}
use Rattle.session_rules.specs.Transfer.{reading_of}
use Rattle.session_rules.specs.declared.Phase.{Phase}
use Rattle.session_rules.specs.declared.Phase.TheVariants.{Fresh, Under, Past}
use Rattle.session_rules.specs.declared.Account.{Account}
use Rattle.session_rules.specs.Accounts.{place_of}
use Rattle.session_rules.specs.Entry.{Entry}
use Rattle.session_rules.specs.declared.Session.{Session}
use Rattle.session_rules.specs.declared.Outcome.{Outcome}
use Rattle.session_rules.specs.Session.{fresh}
use Rattle.session_rules.specs.Call.{Ask, Call}
use Rattle.session_rules.specs.Calls.{Offer, call_by, taken}
use Rattle.books.specs.Rule.{Item, entry_of, events, is_open, frames_by, loose, entries, one_in, part_in, total}
use Rattle.books.specs.Demands.{UnderWay}
use Rattle.books.specs.Offers.{list_of}
use Rattle.books.specs.LastReadable.{none, last_fid, spoilt_since, Other}
use Rattle.books.specs.Alike.{OpenedAlike, At, NoneRefused, Said, said_of}
use Rattle.books.proofs.Taken.{listed, Proper, taken-proper, after_run}
use Rattle.books.proofs.Sound.{after-opening}
use Rattle.books.proofs.ByList.{still_open}
use Rattle.books.proofs.Openings.{alike-itself, alike_moved, reads-alike}
use Rattle.books.proofs.Begins.{phase_fid, run-fid, run-gap, fresh-hands}
use Rattle.books.proofs.Proved.{nothing-missing}
use Rattle.behind.specs.Behind.{In, Stands, LastIs, reached, begun, calls, offered, Behind}
use Rattle.behind.specs.Added.{Adds, Grows, AddsAlike, Bills, NeverCosts}
use Rattle.behind.proofs.First.{Unlike, first, same, behind, none-begun}
use Rattle.behind.proofs.Added.{listed_from, outcome_in, listed-alike, mark_by, marks-by, calls-listed, taken-append, adds, later-proper, events-alike, frames-alike, grown}

-- ---- the premise
not_itself : (b : Bool) → b ≡ not b → ⊥
not_itself true p = true≢false p
not_itself false p = true≢false (sym p)

in-other : (f g : Bool) (ph : Phase) → In f ph → g ≡ not f → Other g (phase_fid ph)
in-other f g Fresh i e = tt
in-other f g (Under r) i e = λ q. not_itself f (sym i ∙ q ∙ e)
in-other f g (Past x) i e = λ q. not_itself f (sym i ∙ q ∙ e)

stands-unlike : (f g : Bool) (s : Session) → Stands f s → g ≡ not f → Unlike g s
stands-unlike f g s u e = record { other = in-other f g s.rest.track.phase u.run e; clear = u.clear }

-- OF ANY TWO SESSION RECORDS that are opened alike and stand so: "from there the fates of all frames that begin in those calls, and their bytes in each lent buffer, are equal"
pub damage-stays-behind : (x y : At) (f : Bool) (t : List ℕ) (h : Header) (ks : List Ask)
    → OpenedAlike x.session.rest.opening y.session.rest.opening → Stands f x.session → Stands f y.session
    → reading_of x.session.rest.opening t ≡ Readable h → h.fid ≡ not f
    → NoneRefused x (calls x t ks) → NoneRefused y (calls y t ks) → Behind x y t ks
damage-stays-behind x y f t h ks a u w reads e p q =
    behind t h x y ks a reads (stands-unlike f h.fid x.session u e) (stands-unlike f h.fid y.session w e) p q

-- ---- histories: the last readable transfer of the list, if there is one, has another FID than g, and nothing unreadable or lost has come since
record Fits (g : Bool) (o : Opening) (cs : List Call) : Type 0 where
  pub other : Other g (last_fid none (events o cs))
  pub clear : spoilt_since false (events o cs) ≡ false

last_fits : (f g : Bool) (o : Opening) (cs ds : List Call) → cs ≡ ds → LastIs f o ds → g ≡ not f → Fits g o cs
last_fits f g o cs ds q l e =
    subst (Fits g o) (sym q) (record { other = subst (Other g) (sym l.fid) (λ p. not_itself f (p ∙ e)); clear = l.clear })

module _ (o : Opening) (xs : List Offer) (b t : List ℕ) (h : Header) (reads : reading_of o t ≡ Readable h) (fits : Fits h.fid o (taken (fresh o) xs)) where
  abbrev x : At
  x = reached o xs b

  abbrev cs : List Call
  cs = taken (fresh o) xs

  reads_here : reading_of x.session.rest.opening t ≡ Readable h
  reads_here = ap (λ (p : Opening). reading_of p t) (after-opening o xs) ∙ reads

  module _ (ks : List Ask) (p : NoneRefused x (calls x t ks)) where
    open₀ : is_open cs ≡ true
    open₀ = still_open o xs (Offer.take b t) p.0

    unlike : Unlike h.fid x.session
    unlike =
        subst (Unlike h.fid) (sym (after_run (fresh o) xs))
        (record { other = subst (Other h.fid) (sym (run-fid cs (fresh o) open₀)) fits.other; clear = run-gap cs (fresh o) open₀ ∙ fits.clear })

    abbrev rest : List Call
    rest = listed_from (begun x t) ks

    abbrev later : List Call
    later = Call.transfer t ∷ rest

    abbrev before : List Call
    before = cs ++ mark_by (said_of x (Ask.transfer t))

    taken-all : taken (fresh o) (xs ++ offered x t ks) ≡ before ++ later
    taken-all =
        let u = first t h x ks reads_here unlike p in
        taken-append xs (offered x t ks) (fresh o)
        ∙ ap (cs ++◌) (calls-listed x t ks p u.answer u.said)
        ∙ sym (append_assoc cs (mark_by (said_of x (Ask.transfer t))) later)

    proper-all : Proper (fresh o) (before ++ later)
    proper-all = subst (Proper (fresh o)) taken-all (taken-proper (fresh o) (xs ++ offered x t ks))

    proper-begun : Proper (fresh o) later
    proper-begun =
        later-proper o cs t h reads fits.other fits.clear open₀ (taken-proper (fresh o) xs) rest (mark_by (said_of x (Ask.transfer t))) (marks-by (said_of x (Ask.transfer t))) proper-all

    adds-here : Adds o (list_of o xs) (list_of o (xs ++ offered x t ks)) (frames_by o later) (loose (events o later))
    adds-here =
        subst (λ (l : List Call). Adds o l (list_of o (xs ++ offered x t ks)) (frames_by o later) (loose (events o later))) (nothing-missing.list o xs)
        (subst (λ (l : List Call). Adds o cs l (frames_by o later) (loose (events o later))) (sym taken-all ∙ nothing-missing.list o (xs ++ offered x t ks))
        (adds o cs t h reads fits.other fits.clear open₀ (taken-proper (fresh o) xs) rest (mark_by (said_of x (Ask.transfer t))) (marks-by (said_of x (Ask.transfer t))) proper-all))

-- ---- two histories
module _ (o p : Opening) (alike : OpenedAlike o p) (xs ys : List Offer) (b c t : List ℕ) (h : Header) (reads : reading_of o t ≡ Readable h) (reads' : reading_of p t ≡ Readable h)
    (fits : Fits h.fid o (taken (fresh o) xs)) (fits' : Fits h.fid p (taken (fresh p) ys)) (ks : List Ask)
    (none₀ : NoneRefused (reached o xs b) (calls (reached o xs b) t ks)) (none₁ : NoneRefused (reached p ys c) (calls (reached p ys c) t ks)) where
  abbrev x₀ : At
  x₀ = reached o xs b

  abbrev y₀ : At
  y₀ = reached p ys c

  opened : OpenedAlike x₀.session.rest.opening y₀.session.rest.opening
  opened = alike_moved o p x₀.session.rest.opening y₀.session.rest.opening (after-opening o xs) (after-opening p ys) alike

  heard-behind : Behind x₀ y₀ t ks
  heard-behind = behind t h x₀ y₀ ks opened (reads_here o xs b t h reads fits) (unlike o xs b t h reads fits ks none₀) (unlike p ys c t h reads' fits' ks none₁) none₀ none₁

  abbrev later_here : List Call
  later_here = later o xs b t h reads fits ks none₀

  same-later : later p ys c t h reads' fits' ks none₁ ≡ later_here
  same-later =
      ap (Call.transfer t ∷◌) (sym (listed-alike (begun x₀ t) (begun y₀ t) ks
      (same t h x₀ y₀ ks opened (reads_here o xs b t h reads fits) (unlike o xs b t h reads fits ks none₀) (unlike p ys c t h reads' fits' ks none₁) none₀ none₁)
      (none-begun t h x₀ ks none₀) (none-begun t h y₀ ks none₁)))

  same-frames : frames_by p (later p ys c t h reads' fits' ks none₁) ≡ frames_by o later_here
  same-frames =
      ap (frames_by p) same-later
      ∙ sym (frames-alike o p alike later_here (proper-begun o xs b t h reads fits ks none₀) (subst (Proper (fresh p)) same-later (proper-begun p ys c t h reads' fits' ks none₁)))

  same-loose : loose (events p (later p ys c t h reads' fits' ks none₁)) ≡ loose (events o later_here)
  same-loose = ap (λ (l : List Call). loose (events p l)) same-later ∙ sym (ap loose (events-alike o p alike later_here))

  adds-alike : AddsAlike o p (list_of o xs) (list_of o (xs ++ offered x₀ t ks)) (list_of p ys) (list_of p (ys ++ offered y₀ t ks))
  adds-alike =
      record {
        begun = frames_by o later_here;
        single = loose (events o later_here);
        mine = adds-here o xs b t h reads fits ks none₀;
        yours =
            subst (λ (l : List Entry). Adds p (list_of p ys) (list_of p (ys ++ offered y₀ t ks)) (frames_by o later_here) l) same-loose
            (subst (λ (l : List Item). Adds p (list_of p ys) (list_of p (ys ++ offered y₀ t ks)) l (loose (events p (later p ys c t h reads' fits' ks none₁)))) same-frames
            (adds-here p ys c t h reads' fits' ks none₁));
      }

  bills : Bills o p xs ys x₀ y₀ t ks
  bills =
      record {
        alike = adds-alike;
        mine = grown o (list_of o xs) (list_of o (xs ++ offered x₀ t ks)) adds-alike.begun adds-alike.single adds-alike.mine _ _ (nothing-missing.accounts o xs) (nothing-missing.accounts o (xs ++ offered x₀ t ks));
        yours = grown p (list_of p ys) (list_of p (ys ++ offered y₀ t ks)) adds-alike.begun adds-alike.single adds-alike.yours _ _ (nothing-missing.accounts p ys) (nothing-missing.accounts p (ys ++ offered y₀ t ks));
      }

-- OF ANY TWO HISTORIES from fresh sessions that are opened alike, with the premise from the list alone: "whose last readable transfers taken have the same FID with nothing unreadable or lost
-- since". Nothing is asked of the buffers that were lent before.
pub damage-behind : (o p : Opening) → OpenedAlike o p → (f : Bool) (xs ys : List Offer) (b c t : List ℕ) (h : Header) (ks : List Ask)
    → LastIs f o (list_of o xs) → LastIs f p (list_of p ys) → reading_of o t ≡ Readable h → h.fid ≡ not f
    → NoneRefused (reached o xs b) (calls (reached o xs b) t ks) → NoneRefused (reached p ys c) (calls (reached p ys c) t ks)
    → Behind (reached o xs b) (reached p ys c) t ks
damage-behind o p a f xs ys b c t h ks l m reads e q r =
    heard-behind o p a xs ys b c t h reads (sym (reads-alike o p a t) ∙ reads) (last_fits f h.fid o (taken (fresh o) xs) (list_of o xs) (nothing-missing.list o xs) l e)
    (last_fits f h.fid p (taken (fresh p) ys) (list_of p ys) (nothing-missing.list p ys) m e) ks q r

-- "Ledgers and steps to earlier frames may differ": what those calls add to each account is the same but for the earlier frame, and of the steps only the first may differ.
pub bills-behind : (o p : Opening) → OpenedAlike o p → (f : Bool) (xs ys : List Offer) (b c t : List ℕ) (h : Header) (ks : List Ask)
    → LastIs f o (list_of o xs) → LastIs f p (list_of p ys) → reading_of o t ≡ Readable h → h.fid ≡ not f
    → NoneRefused (reached o xs b) (calls (reached o xs b) t ks) → NoneRefused (reached p ys c) (calls (reached p ys c) t ks)
    → Bills o p xs ys (reached o xs b) (reached p ys c) t ks
bills-behind o p a f xs ys b c t h ks l m reads e q r =
    bills o p a xs ys b c t h reads (sym (reads-alike o p a t) ∙ reads) (last_fits f h.fid o (taken (fresh o) xs) (list_of o xs) (nothing-missing.list o xs) l e)
    (last_fits f h.fid p (taken (fresh p) ys) (list_of p ys) (nothing-missing.list p ys) m e) ks q r

-- ---- against a fresh session: it hands nothing out, so its list is those calls and nothing else
none-marked : (v : Said) (t : List ℕ) → call_by (outcome_in v) t ≡ Call.transfer t → mark_by v ≡ []
none-marked (Said.took (Outcome.Refused k)) t e = refl
none-marked (Said.took (Outcome.Taken a)) t e = refl
none-marked (Said.took (Outcome.Handed y)) t e = absurd (no e)
  where
    no : Call.handed ≡ Call.transfer t → ⊥
    no e = let z : ◌≡◌ {A = ℕ} 0 1 = cc in omega arith
none-marked (Said.noted y) t e = refl
none-marked (Said.shut y) t e = refl

way-nothing : (m : Entry → ℕ) → ((n : ℕ) → m (Entry.UnderWay n) ≡ 0) → (was : List Item) → UnderWay was → total m (map entry_of was) ≡ 0
way-nothing m z was UnderWay.none = refl
way-nothing m z was (UnderWay.one n d) = rw (z n)

module _ (o : Opening) (f : Bool) (xs : List Offer) (b c t : List ℕ) (h : Header) (ks : List Ask) (l : LastIs f o (list_of o xs)) (reads : reading_of o t ≡ Readable h) (e : h.fid ≡ not f)
    (p : NoneRefused (reached o xs b) (calls (reached o xs b) t ks)) (q : NoneRefused (reached o [] c) (calls (reached o [] c) t ks)) where
  abbrev y₁ : At
  y₁ = reached o [] c

  fits-x : Fits h.fid o (taken (fresh o) xs)
  fits-x = last_fits f h.fid o (taken (fresh o) xs) (list_of o xs) (nothing-missing.list o xs) l e

  fits-y : Fits h.fid o []
  fits-y = record { other = tt; clear = refl }

  both : Bills o o xs [] (reached o xs b) y₁ t ks
  both = bills o o (alike-itself o) xs [] b c t h reads reads fits-x fits-y ks p q

  unmarked : mark_by (said_of y₁ (Ask.transfer t)) ≡ []
  unmarked = none-marked (said_of y₁ (Ask.transfer t)) t (listed (fresh o) c t false q.0 (fresh-hands o t))

  fresh-list : list_of o (offered y₁ t ks) ≡ later o xs b t h reads fits-x ks p
  fresh-list =
      sym (nothing-missing.list o (offered y₁ t ks))
      ∙ taken-all o [] c t h reads fits-y ks q
      ∙ ap (◌++ later o [] c t h reads fits-y ks q) unmarked
      ∙ same-later o o (alike-itself o) xs [] b c t h reads reads fits-x fits-y ks p q

  no-cost : (m : Entry → ℕ) → ((n : ℕ) → m (Entry.UnderWay n) ≡ 0) → (n k j : ℕ)
      → Grows m n k both.alike.mine.was both.alike.mine.became both.alike.begun both.alike.single → j ≡ total m (entries o (list_of o (offered y₁ t ks))) → n + j ≤ k
  unfolding both bills adds-alike
  no-cost m z n k j g w =
      let v = way-nothing m z both.alike.mine.was both.alike.mine.was-way in
      let u = ap (λ (cs : List Call). total m (entries o cs)) fresh-list in
      omega arith

  -- "A BAD FRAME MUST NEVER COST THE CUSTOMER A LATER ONE": against a session that has met no damage
  pub never-costs : NeverCosts o xs (reached o xs b) y₁ t ks
  never-costs =
      let r = nothing-missing.accounts o (offered y₁ t ks) in
      record {
        behind = heard-behind o o (alike-itself o) xs [] b c t h reads reads fits-x fits-y ks p q;
        frames = no-cost (one_in (place_of Account.Delivered)) (λ n. refl) _ _ _ (both.mine.counts Account.Delivered) (r.counts Account.Delivered);
        bytes = no-cost (part_in (place_of Account.Delivered)) (λ n. refl) _ _ _ (both.mine.bytes Account.Delivered) (r.bytes Account.Delivered);
        stills = no-cost (one_in (place_of Account.Still)) (λ n. refl) _ _ _ (both.mine.counts Account.Still) (r.counts Account.Still);
        still-bytes = no-cost (part_in (place_of Account.Still)) (λ n. refl) _ _ _ (both.mine.bytes Account.Still) (r.bytes Account.Still);
      }
