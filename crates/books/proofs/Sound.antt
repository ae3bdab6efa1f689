-- A session reached from a fresh one is never refused by 50.
use Rattle.std.specs.Prelude.{None, Some}
use Rattle.session_rules.specs.Options.{Fault}
use Prim.Native.Nat.{ℕ, zero, suc, ◌+◌, ◌-◌, ◌*◌, ◌^◌, ◌≤◌, ◌<◌}
use mathlib.Core.Path.{◌≡◌, refl, sym, ◌∙◌, subst, ap}
use mathlib.Core.Bool.{Bool, true, false, cond, ◌||◌}
use mathlib.Core.List.{List, [], ◌∷◌}
use native.Mathlib.Omega.{arith}
use lib.ListN.{length}
use lib.Dec.{ltb}
use borrow.Author.Tests.{le-ltb, eq-eqb, ltb-false}
use Rattle.rules.specs.IfElse.{if_else}
use Rattle.rules.specs.Numbered.{first_row, NoneOf}
use Rattle.rules.proofs.Rows.{Numbered, row-none, any_none}
use Rattle.sizes.specs.declared.Opening.{Opening}
use Rattle.session_rules.specs.declared.Header.{Header}
use Rattle.session_rules.specs.declared.Reading.{Reading}
use Rattle.session_rules.specs.declared.Reading.TheVariants.{Idle, Unreadable, Readable}
use Rattle.session_rules.specs.Transfer.{reading_of}
use Rattle.session_rules.specs.declared.Reason.{Reason}
use Rattle.session_rules.specs.declared.Reason.TheVariants.{Gap, Error, Clock, Mixed, Long}
use Rattle.session_rules.specs.declared.Run.{Run}
use Rattle.session_rules.specs.declared.Phase.{Phase}
use Rattle.session_rules.specs.declared.Phase.TheVariants.{Fresh, Under, Past}
use Rattle.session_rules.specs.declared.Session.{Session}
use Rattle.session_rules.specs.Refusals.{record_broken, ledger_of, take_rows}
use Rattle.session_rules.specs.Session.{fresh, read_of, took_by, took_of, hands_out, handed_of}
use Rattle.books.specs.Rule.{Event, event_by, events, loose, lost_line, idle_line, received}
use Rattle.books.specs.Demands.{Right}
use Rattle.books.proofs.Taken.{Proper, listed, after_run}
use Rattle.books.proofs.Accounts.{count-right, bytes-right, all_right}
use Rattle.books.proofs.Bounds.{heard, count-bound, bytes-bound, ticks-bound, backward-bound, untimed-bound}
use Rattle.books.proofs.History.{next-opening}
use Rattle.session_rules.specs.Accounts.{account_count}
use Rattle.sizes.specs.Sizes.{sizes_broken}
use Rattle.session_rules.specs.Turns.{first_of, clash_of, same_of, mixed_of, why_of, begun_of, joined_of, filled_of, ends_of, turned_why, phase_of, join_turn, stray_turn, turn_by, turn_of, out_by, out_of, spoilt_by, spoilt_of, closed_by, closed_of}
use Rattle.session_rules.specs.Rule50.{rule50, unequal, fill_broken, account_broken, accounts_broken, counts_broken}
use Rattle.session_rules.specs.Call.{Call}
use Rattle.session_rules.specs.Calls.{Offer, refusal, next, after, call_of, unless, taken, next_call, run}

-- ---- fill: within the frame, and in a frame without fault its bytes
abbrev pub Snug : ℕ → Fault → ℕ → ℕ → Type 0
Snug frame None fill bytes = (fill ≡ bytes) × (bytes ≤ frame)
Snug frame (Some w) fill bytes = fill ≤ frame

abbrev pub Fit : ℕ → Phase → Type 0
Fit frame Fresh = Unit {0}
Fit frame (Past f) = Unit {0}
Fit frame (Under x) = Snug frame x.fault x.fill x.bytes

snug-spoilt : (frame : ℕ) (q : Fault) (w : Reason) (fill bytes : ℕ) → Snug frame q fill bytes → Snug frame (first_of q true w) fill bytes
snug-spoilt frame None w fill bytes e = omega arith
snug-spoilt frame (Some v) w fill bytes e = e

-- the tracker's fault once a transfer has joined, from its four tests
abbrev pub fault_by : Fault → Bool → Bool → Bool → Bool → Fault
fault_by q i c m l = first_of (first_of (first_of (first_of q i Error) c Clock) m Mixed) l Long

pub snug-joined : (frame : ℕ) (q : Fault) (i c m l : Bool) (fill bytes n : ℕ) → ltb frame (bytes + n) ≡ l → Snug frame q fill bytes
    → Snug frame (fault_by q i c m l) (filled_of (fault_by q i c m l) fill n) (bytes + n)
snug-joined frame (Some w) i c m l fill bytes n g e = e
snug-joined frame None true c m l fill bytes n g e = omega arith
snug-joined frame None false true m l fill bytes n g e = omega arith
snug-joined frame None false false true l fill bytes n g e = omega arith
snug-joined frame None false false false true fill bytes n g e = omega arith
snug-joined frame None false false false false fill bytes n g e = (omega arith, ltb-false frame (bytes + n) g)

pub snug-begun : (frame : ℕ) (b : Bool) → Snug frame (first_of None b Gap) 0 0
snug-begun frame true = omega arith
snug-begun frame false = (refl, omega arith)

fit-join : (o : Opening) (h : Header) (n : ℕ) (x : Run) (e : Bool) → Fit o.frame (Under x) → Fit o.frame (phase_of e (joined_of o x h n))
fit-join o h n x true f = tt
fit-join o h n x false f =
    snug-joined o.frame x.fault h.error (clash_of x.stamp h.stamp) (mixed_of x h) (ltb o.frame (x.bytes + n)) x.fill x.bytes n refl f

fit-turn : (o : Opening) (h : Header) (n : ℕ) (ph : Phase) (b : Bool) → Fit o.frame ph → Fit o.frame (turn_by ph o b h n).track.phase
unfolding if_else
fit-turn o h n Fresh b f = fit-join o h n (begun_of b h.fid h.still) (ends_of o h) (snug-begun o.frame b)
fit-turn o h n (Past g) b f = go (same_of g h.fid)
  where
    go : (c : Bool) → Fit o.frame (if_else c (stray_turn g n) (join_turn o (begun_of b h.fid h.still) h n None 0)).track.phase
    go true = tt
    go false = fit-join o h n (begun_of b h.fid h.still) (ends_of o h) (snug-begun o.frame b)
fit-turn o h n (Under x) b f = go (same_of x.fid h.fid)
  where
    go : (c : Bool) → Fit o.frame (if_else c (join_turn o x h n None 0) (join_turn o (begun_of b h.fid h.still) h n (Some (why_of x.fault (turned_why o))) x.bytes)).track.phase
    go true = fit-join o h n x (ends_of o h) f
    go false = fit-join o h n (begun_of b h.fid h.still) (ends_of o h) (snug-begun o.frame b)

fit-spoilt : (frame : ℕ) (ph : Phase) → Fit frame ph → Fit frame (spoilt_by ph)
fit-spoilt frame Fresh f = f
fit-spoilt frame (Past g) f = f
fit-spoilt frame (Under x) f = snug-spoilt frame x.fault Gap x.fill x.bytes f

pub fit-out : (frame : ℕ) (ph : Phase) (b : Bool) → Fit frame (out_by ph b).track.phase
fit-out frame Fresh b = tt
fit-out frame (Past g) b = tt
fit-out frame (Under x) b = tt

fit-closed : (frame : ℕ) (ph : Phase) (b : Bool) → Fit frame (closed_by ph b).track.phase
fit-closed frame Fresh b = tt
fit-closed frame (Past g) b = tt
fit-closed frame (Under x) b = tt

pub fit-took : (s : Session) (t : List ℕ) (r : Reading) → Fit s.rest.opening.frame s.rest.track.phase → Fit s.rest.opening.frame (took_by r s t).session.rest.track.phase
unfolding read_of turn_of spoilt_of
fit-took s t Idle f = f
fit-took s t (Unreadable k) f = fit-spoilt s.rest.opening.frame s.rest.track.phase f
fit-took s t (Readable h) f = fit-turn s.rest.opening h (length t - h.len) s.rest.track.phase s.rest.track.gap f

pub fit_next : (s : Session) (c : Call) → Fit s.rest.opening.frame s.rest.track.phase → Fit s.rest.opening.frame (next_call s c).rest.track.phase
unfolding took_of spoilt_of closed_of handed_of out_of
fit_next s (Call.transfer t) f = fit-took s t (reading_of s.rest.opening t) f
fit_next s Call.lost f = fit-spoilt s.rest.opening.frame s.rest.track.phase f
fit_next s Call.handed f = fit-out s.rest.opening.frame s.rest.track.phase s.rest.track.gap
fit_next s Call.close f = fit-closed s.rest.opening.frame s.rest.track.phase s.rest.track.gap

pub fit-run : (o : Opening) (cs : List Call) (s : Session) → s.rest.opening ≡ o → Fit o.frame s.rest.track.phase → Fit o.frame (run s cs).rest.track.phase
fit-run o [] s e f = f
fit-run o (c ∷ cs) s e f =
    fit-run o cs (next_call s c) (next-opening s c ∙ e) (subst (λ (q : Opening). Fit q.frame (next_call s c).rest.track.phase) e (fit_next s c (subst (λ (q : Opening). Fit q.frame s.rest.track.phase) (sym e) f)))

fill-fits : (frame : ℕ) (ph : Phase) → Fit frame ph → fill_broken ph frame ≡ false
unfolding fill_broken
fill-fits frame Fresh f = refl
fill-fits frame (Past g) f = refl
fill-fits frame (Under x) f = go x.fault f
  where
    go : (q : Fault) → Snug frame q x.fill x.bytes → (ltb frame x.fill || unequal q x.fill x.bytes) ≡ false
    go None e = rw (le-ltb frame x.fill (omega arith), eq-eqb x.fill x.bytes e.0)
    go (Some w) e = rw (le-ltb frame x.fill e)

-- ---- the opening and the transfers taken
pub run-opening : (cs : List Call) (s : Session) → (run s cs).rest.opening ≡ s.rest.opening
run-opening [] s = refl
run-opening (c ∷ cs) s = run-opening cs (next_call s c) ∙ next-opening s c

pub after-opening : (o : Opening) (xs : List Offer) → (after (fresh o) xs).rest.opening ≡ o
after-opening o xs = ap (λ (s : Session). s.rest.opening) (after_run (fresh o) xs) ∙ run-opening (taken (fresh o) xs) (fresh o)

pub took-taken : (s : Session) (t : List ℕ) (r : Reading) → (took_by r s t).session.rest.taken ≡ s.rest.taken + 1
unfolding read_of
took-taken s t Idle = refl
took-taken s t (Unreadable k) = refl
took-taken s t (Readable h) = refl

event-one : (t : List ℕ) (es : List Event) (r : Reading) → length (loose (event_by r t ∷ es)) ≡ suc (length (loose es))
event-one t es Idle = refl
event-one t es (Unreadable k) = refl
event-one t es (Readable h) = refl

pub run-taken : (o : Opening) (cs : List Call) (s : Session) → Proper s cs → (run s cs).rest.taken ≡ s.rest.taken + heard o cs
unfolding took_of handed_of
run-taken o [] s p = omega arith
run-taken o (Call.transfer t ∷ cs) s p =
    omega (arith, run-taken o cs (next_call s (Call.transfer t)) p.1, took-taken s t (reading_of s.rest.opening t), event-one t (events o cs) (reading_of o t))
run-taken o (Call.lost ∷ cs) s p = omega (arith, run-taken o cs (next_call s Call.lost) p)
run-taken o (Call.handed ∷ cs) s p = run-taken o cs (next_call s Call.handed) p.1
run-taken o (Call.close ∷ []) s p = omega arith
run-taken o (Call.close ∷ (c ∷ cs)) s p = absurd p

-- no transfer taken is over 65,536 bytes
abbrev pub Small : List Call → Type 0
Small [] = Unit {0}
Small (Call.transfer t ∷ cs) = (length t ≤ 65536) × Small cs
Small (Call.lost ∷ cs) = Small cs
Small (Call.handed ∷ cs) = Small cs
Small (Call.close ∷ cs) = Small cs

small-received : (o : Opening) (cs : List Call) → Small cs → received cs ≤ 65536 * heard o cs
small-received o [] h = omega arith
small-received o (Call.transfer t ∷ cs) h = omega (arith, h.0, small-received o cs h.1, event-one t (events o cs) (reading_of o t))
small-received o (Call.lost ∷ cs) h = omega (arith, small-received o cs h)
small-received o (Call.handed ∷ cs) h = small-received o cs h
small-received o (Call.close ∷ cs) h = omega arith

take-rows : (s : Session) (room n : ℕ) → Numbered (take_rows s room n)
take-rows s room n = (omega arith, (omega arith, (omega arith, (omega arith, (omega arith, tt)))))

take-small : (s : Session) (room n : ℕ) → first_row (take_rows s room n) ≡ 0 → n ≤ 65536
take-small s room n e =
    let d : NoneOf (take_rows s room n) = row-none (take_rows s room n) (take-rows s room n) e in
    ltb-false 65536 n d.1.1.1.1.0

pub taken-small : (s : Session) (xs : List Offer) → Small (taken s xs)
taken-small s [] = tt
taken-small s (x ∷ xs) = go x (refusal s x) refl (taken-small (next s x) xs)
  where
    met : (b t : List ℕ) (c : Bool) → refusal s (Offer.take b t) ≡ 0 → (cs : List Call) → Small cs → Small (cond c Call.handed (Call.transfer t) ∷ cs)
    met b t true e cs r = r
    met b t false e cs r = (take-small s (length b) (length t) e, r)

    go : (y : Offer) (k : ℕ) → refusal s y ≡ k → Small (taken (next s y) xs) → Small (unless k (call_of s y) (taken (next s y) xs))
    go y (suc k) e r = r
    go (Offer.take b t) zero e r = rw (listed s b t (hands_out s t) e refl) (met b t (hands_out s t) e (taken (next s (Offer.take b t)) xs) r)
    go Offer.lost zero e r = r
    go Offer.close zero e r = r

-- ---- rule 50
under : (n x m : ℕ) → x ≡ m → m ≤ n → ltb n x ≡ false
under n x m e h = le-ltb n x (omega arith)

module _ (o : Opening) (cs : List Call) (p : Proper (fresh o) cs) (small : Small cs) where
  abbrev at-end : Session
  at-end = run (fresh o) cs

  counted : at-end.rest.taken ≡ heard o cs
  counted = run-taken o cs (fresh o) p ∙ omega arith

  account-fine : (k : ℕ) → k < account_count → account_broken (ledger_of at-end) at-end.rest.taken k ≡ false
  account-fine k h =
      rw (under at-end.rest.taken _ _ (count-right o cs p k h) (rw counted (count-bound o cs k)), under (65536 * at-end.rest.taken) _ _ (bytes-right o cs p k h) (rw counted (bytes-bound o cs k (small-received o cs small))))

  accounts-fine : accounts_broken (ledger_of at-end) at-end.rest.taken ≡ false
  unfolding accounts_broken
  accounts-fine = any_none account_count (account_broken (ledger_of at-end) at-end.rest.taken) account-fine

  counts-fine : counts_broken (ledger_of at-end) at-end.rest.taken ≡ false
  unfolding counts_broken
  counts-fine =
      let r : Right o cs (ledger_of at-end) = all_right o cs p in
      rw (
        under (2 ^ 31 * at-end.rest.taken) _ _ r.ticks (rw counted (ticks-bound o cs)),
        under at-end.rest.taken _ _ r.losses (rw counted (count-bound o cs lost_line)),
        under at-end.rest.taken _ _ r.idles (rw counted (count-bound o cs idle_line)),
        under at-end.rest.taken _ _ r.backward (rw counted (backward-bound o cs)),
        under at-end.rest.taken _ _ r.plain (rw counted (untimed-bound o cs)),
      )

  pub record-sound : sizes_broken o ≡ false → record_broken at-end ≡ false
  unfolding rule50
  record-sound e =
      rw (run-opening cs (fresh o), e, fill-fits o.frame at-end.rest.track.phase (fit-run o cs (fresh o) refl tt), accounts-fine, counts-fine)
