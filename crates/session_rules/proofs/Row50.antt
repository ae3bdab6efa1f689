-- Rule 50, word for word: a record is refused by 50 exactly when one of its row's conditions holds.
use Rattle.std.specs.Prelude.{None, Some}
use Rattle.session_rules.specs.Options.{Fault}
use Prim.Native.Nat.{ℕ, ◌*◌, ◌≤◌, ◌<◌, ◌^◌}
use mathlib.Core.Path.{◌≡◌, refl, sym, ◌∙◌}
use mathlib.Core.Bool.{Bool, true, false, not, ◌||◌, true≢false}
use mathlib.Core.Logic.{◌↔◌}
use native.Mathlib.Omega.{arith}
use lib.Dec.{ltb, eqb}
use lib.ListN.{get_or}
use borrow.Author.Tests.{ltb-false, eqb-true, le-ltb, eq-eqb, ne_eqb}
use Rattle.rules.proofs.Rows.{any_none, or-first, or-second, none_any}
use Rattle.sizes.specs.Sizes.{frame_most, payload_least, payload_most, frame_size_broken, payload_size_broken, Between, sizes_broken}
use Rattle.sizes.proofs.Limits.{frame-sound, payload-sound}
use Rattle.sizes.specs.declared.Opening.{Opening}
use Rattle.session_rules.specs.declared.Phase.{Phase}
use Rattle.session_rules.specs.declared.Phase.TheVariants.{Fresh, Under, Past}
use Rattle.session_rules.specs.declared.Ledger.{Ledger}
use Rattle.session_rules.specs.Ledger.{count_of, bytes_of}
use Rattle.session_rules.specs.Rule50.{transfer_most, unequal, fill_broken, account_broken, accounts_broken, counts_broken, rule50, Keeps}
use Rattle.session_rules.specs.Accounts.{account_count, lost_at, idle_at, ticks_at, backward_at, untimed_at}
use Rattle.session_rules.specs.Track.{FilledBy}

none : (a b : Bool) → a ≡ false → b ≡ false → (a || b) ≡ false
none a b p q = rw p q

-- ---- sizes
pub frame-clear : (n : ℕ) → Between 1 n frame_most → frame_size_broken n ≡ false
unfolding frame_size_broken
frame-clear n b = none (eqb n 0) (ltb frame_most n) (ne_eqb n 0 (λ z. omega (arith, b.low))) (le-ltb frame_most n b.high)

pub payload-clear : (n : ℕ) → Between payload_least n payload_most → payload_size_broken n ≡ false
unfolding payload_size_broken
payload-clear n b = none (ltb n payload_least) (ltb payload_most n) (le-ltb n payload_least b.low) (le-ltb payload_most n b.high)

-- ---- fill
same-fill : (f : Fault) (fill bytes : ℕ) → unequal f fill bytes ≡ false → f ≡ None → fill ≡ bytes
same-fill None fill bytes e q = eqb-true fill bytes (not-not (eqb fill bytes) e)
  where
    not-not : (b : Bool) → not b ≡ false → b ≡ true
    not-not true h = refl
    not-not false h = absurd (true≢false h)
same-fill (Some w) fill bytes e q = let z : ◌≡◌ {A = ℕ} 0 1 = cc in absurd (omega arith)

fill-kept : (o : Opening) (p : Phase) → fill_broken p o.frame ≡ false → FilledBy o p
unfolding fill_broken
fill-kept o Fresh e = tt
fill-kept o (Past fid) e = tt
fill-kept o (Under r) e =
    record {
      within = ltb-false o.frame r.fill (or-first _ (unequal r.fault r.fill r.bytes) e);
      whole = same-fill r.fault r.fill r.bytes (or-second (ltb o.frame r.fill) _ e);
    }

-- ---- the accounts and the other counts
module _ (l : Ledger) (n : ℕ) where
  account-kept : accounts_broken l n ≡ false → (k : ℕ) → k < account_count → (count_of l k ≤ n) × (bytes_of l k ≤ transfer_most * n)
  unfolding accounts_broken
  account-kept e k h =
      let q = none_any account_count (account_broken l n) e k h in (
        ltb-false n (count_of l k) (or-first _ (ltb (transfer_most * n) (bytes_of l k)) q),
        ltb-false (transfer_most * n) (bytes_of l k) (or-second (ltb n (count_of l k)) _ q),
      )

  record Counts : Type 0 where
    ticks : get_or l.numbers ticks_at 0 ≤ 2 ^ 31 * n
    lost : get_or l.numbers lost_at 0 ≤ n
    idle : get_or l.numbers idle_at 0 ≤ n
    backward : get_or l.numbers backward_at 0 ≤ n
    untimed : get_or l.numbers untimed_at 0 ≤ n

  counts-kept : counts_broken l n ≡ false → Counts
  unfolding counts_broken
  counts-kept e =
      let a = or-second (ltb (2 ^ 31 * n) (get_or l.numbers ticks_at 0)) _ e in
      let b = or-second (ltb n (get_or l.numbers lost_at 0)) _ a in
      let c = or-second (ltb n (get_or l.numbers idle_at 0)) _ b in
      record {
        ticks = ltb-false (2 ^ 31 * n) (get_or l.numbers ticks_at 0) (or-first _ _ e);
        lost = ltb-false n (get_or l.numbers lost_at 0) (or-first _ _ a);
        idle = ltb-false n (get_or l.numbers idle_at 0) (or-first _ _ b);
        backward = ltb-false n (get_or l.numbers backward_at 0) (or-first _ _ c);
        untimed = ltb-false n (get_or l.numbers untimed_at 0) (or-second (ltb n (get_or l.numbers backward_at 0)) _ c);
      }

-- ---- the other way round
account-within : (l : Ledger) (n k : ℕ) → count_of l k ≤ n → bytes_of l k ≤ transfer_most * n → account_broken l n k ≡ false
account-within l n k p q = none (ltb n (count_of l k)) (ltb (transfer_most * n) (bytes_of l k)) (le-ltb n (count_of l k) p) (le-ltb (transfer_most * n) (bytes_of l k) q)

accounts-within : (l : Ledger) (n : ℕ) → ((k : ℕ) → k < account_count → account_broken l n k ≡ false) → false ≡ accounts_broken l n
unfolding accounts_broken
accounts-within l n h = sym (any_none account_count (account_broken l n) h)

unequal-clear : (f : Fault) (fill bytes : ℕ) → (f ≡ None → fill ≡ bytes) → unequal f fill bytes ≡ false
unequal-clear None fill bytes h = rw (eq-eqb fill bytes (h refl))
unequal-clear (Some w) fill bytes h = refl

fill-clear : (o : Opening) (p : Phase) → FilledBy o p → fill_broken p o.frame ≡ false
unfolding fill_broken
fill-clear o Fresh f = refl
fill-clear o (Past fid) f = refl
fill-clear o (Under r) f = none (ltb o.frame r.fill) (unequal r.fault r.fill r.bytes) (le-ltb o.frame r.fill f.within)
    (unequal-clear r.fault r.fill r.bytes f.whole)

counts-clear : (l : Ledger) (n : ℕ) → Counts l n → counts_broken l n ≡ false
unfolding counts_broken
counts-clear l n c =
    none (ltb (2 ^ 31 * n) (get_or l.numbers ticks_at 0)) _ (le-ltb (2 ^ 31 * n) (get_or l.numbers ticks_at 0) c.ticks)
    (none (ltb n (get_or l.numbers lost_at 0)) _ (le-ltb n (get_or l.numbers lost_at 0) c.lost)
    (none (ltb n (get_or l.numbers idle_at 0)) _ (le-ltb n (get_or l.numbers idle_at 0) c.idle)
    (none (ltb n (get_or l.numbers backward_at 0)) _ (le-ltb n (get_or l.numbers backward_at 0) c.backward)
    (le-ltb n (get_or l.numbers untimed_at 0) c.untimed))))

-- ---- the row
module _ (o : Opening) (p : Phase) (l : Ledger) (n : ℕ) where
  keeps : rule50 o p l n ≡ false → Keeps o p l n
  unfolding rule50 sizes_broken
  keeps e =
      let sizes = or-first (sizes_broken o) _ e in
      let others = or-second (sizes_broken o) _ e in
      let more = or-second (fill_broken p o.frame) _ others in
      let account = account-kept l n (or-first (accounts_broken l n) _ more) in
      let other = counts-kept l n (or-second (accounts_broken l n) _ more) in
      record {
        frame = frame-sound o.frame (or-first (frame_size_broken o.frame) _ sizes);
        payload = payload-sound o.payload (or-second (frame_size_broken o.frame) _ sizes);
        fill = fill-kept o p (or-first (fill_broken p o.frame) _ others);
        bytes = λ k h. (account k h).1;
        ticks = other.ticks;
        counts = λ k h. (account k h).0;
        lost = other.lost;
        idle = other.idle;
        backward = other.backward;
        untimed = other.untimed;
      }

  clear : Keeps o p l n → rule50 o p l n ≡ false
  unfolding rule50 sizes_broken
  clear k =
      none (sizes_broken o) _
      (none (frame_size_broken o.frame) (payload_size_broken o.payload) (frame-clear o.frame k.frame)
      (payload-clear o.payload k.payload))
      (none (fill_broken p o.frame) _ (fill-clear o p k.fill)
      (none (accounts_broken l n) (counts_broken l n)
      (sym (accounts-within l n (λ j h. account-within l n j (k.counts j h) (k.bytes j h))))
      (counts-clear l n (record {
        ticks = k.ticks;
        lost = k.lost;
        idle = k.idle;
        backward = k.backward;
        untimed =
            k.untimed;
      }))))

  -- EXACTLY WHEN: 50 is not given where none of its conditions holds, and given where one does
  pub row-50 : (rule50 o p l n ≡ false) ↔ Keeps o p l n
  row-50 = (keeps, clear)

  pub row-50-given : (rule50 o p l n ≡ true) ↔ (Keeps o p l n → ⊥)
  row-50-given = (λ e k. true≢false (sym e ∙ clear k), λ h. go (rule50 o p l n) refl h)
    where
      go : (b : Bool) → rule50 o p l n ≡ b → (Keeps o p l n → ⊥) → rule50 o p l n ≡ true
      go true e h = e
      go false e h = absurd (h (keeps e))
