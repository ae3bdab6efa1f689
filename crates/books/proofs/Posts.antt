-- What a list of entries, posted one after the other, comes to at each place of the ledger.
use Rattle.std.specs.Prelude.{None, Some}
use Rattle.session_rules.specs.Options.{Stamp}
use Prim.Native.Nat.{ℕ, ◌+◌, ◌-◌, ◌*◌, ◌^◌, ◌≤◌, ◌<◌}
use mathlib.Core.Path.{◌≡◌, refl, sym, ◌∙◌, ap}
use mathlib.Core.Bool.{Bool, true, false, cond}
use mathlib.Core.List.{List, [], ◌∷◌, ◌++◌}
use native.Mathlib.Nat.{add-zero, zero-add, add_assoc}
use native.Mathlib.Omega.{arith}
use lib.Dec.{ltb, eqb}
use borrow.Author.Tests.{ne_eqb}
use Rattle.rules.specs.IfElse.{if_else}
use Rattle.session_rules.specs.declared.Reason.{Reason}
use Rattle.session_rules.specs.declared.Delivery.{Delivery}
use Rattle.session_rules.specs.declared.Account.{Account}
use Rattle.session_rules.specs.Entry.{Entry}
use Rattle.session_rules.specs.declared.Step.TheVariants.{Forward, Backward}
use Rattle.session_rules.specs.declared.Ledger.{Ledger}
use Rattle.session_rules.specs.Step.{ahead_of}
use Rattle.session_rules.specs.Ledger.{entered_of, stepped_of, timed_by, timed_of, post_of}
use Rattle.session_rules.proofs.Places.{at, Sized, place-lt, plus-sized, plus-at, plus-last, entry_gain, entered-sized, entered_at, entered-last, count-gains, bytes-gains, others_keep}
use Rattle.books.specs.Rule.{lost_line, idle_line, one_in, part_in, total, stamp_list, stamps_of, stamps, last_stamped, no_stamp, step, forward, back, between}
use Rattle.session_rules.specs.Accounts.{account_count, place_of, account_for, count_at, bytes_at, lost_at, idle_at, ticks_at, backward_at, untimed_at}

-- ---- the time
abbrev pub since : (ℕ → ℕ → ℕ) → Stamp → Stamp → ℕ
since f a None = 0
since f None (Some b) = 0
since f (Some a) (Some b) = f a b

abbrev pub latest : Stamp → Stamp → Stamp
latest a None = a
latest a (Some b) = Some b

abbrev time_gain : Stamp → Stamp → ℕ → ℕ
time_gain a s p = cond (eqb ticks_at p) (since forward a s) 0 + (cond (eqb backward_at p) (since back a s) 0 + cond (eqb untimed_at p) (no_stamp s) 0)

zero-cond : (b : Bool) → ◌≡◌ {A = ℕ} (cond b 0 0) 0
zero-cond true = refl
zero-cond false = refl

stepped-at : (l : Ledger) (a b p : ℕ) → Sized l
    → at p (stepped_of l (if_else (ltb (ahead_of a b) (2 ^ 31)) (Forward (ahead_of a b)) (Backward (2 ^ 32 - ahead_of a b)))) ≡ at p l + (cond (eqb ticks_at p) (forward a b) 0 + cond (eqb backward_at p) (back a b) 0)
unfolding if_else
stepped-at l a b p e = go (ltb (step a b) (2 ^ 31))
  where
    go : (c : Bool) → at p (stepped_of l (if_else c (Forward (ahead_of a b)) (Backward (2 ^ 32 - ahead_of a b)))) ≡ at p l + (cond (eqb ticks_at p) (cond c (step a b) 0) 0 + cond (eqb backward_at p) (cond c 0 1) 0)
    go true = plus-at l ticks_at (ahead_of a b) p e (omega arith) ∙ ap (at p l +◌) (sym (rw (zero-cond (eqb backward_at p)) (add-zero _)))
    go false = plus-at l backward_at 1 p e (omega arith) ∙ ap (at p l +◌) (sym (rw (zero-cond (eqb ticks_at p)) (zero-add _)))

stepped-sized : (l : Ledger) (a b : ℕ) → Sized l → Sized (stepped_of l (if_else (ltb (ahead_of a b) (2 ^ 31)) (Forward (ahead_of a b)) (Backward (2 ^ 32 - ahead_of a b))))
unfolding if_else
stepped-sized l a b e = go (ltb (ahead_of a b) (2 ^ 31))
  where
    go : (c : Bool) → Sized (stepped_of l (if_else c (Forward (ahead_of a b)) (Backward (2 ^ 32 - ahead_of a b))))
    go true = plus-sized l ticks_at (ahead_of a b) e
    go false = plus-sized l backward_at 1 e

timed-at : (l : Ledger) (a s : Stamp) (p : ℕ) → Sized l → at p (timed_by a l s) ≡ at p l + time_gain a s p
timed-at l a None p e = plus-at l untimed_at 1 p e (omega arith) ∙ ap (at p l +◌) (sym (rw (zero-cond (eqb ticks_at p), zero-cond (eqb backward_at p)) (zero-add _ ∙ zero-add _)))
timed-at l None (Some b) p e = sym (rw (zero-cond (eqb ticks_at p), zero-cond (eqb backward_at p), zero-cond (eqb untimed_at p)) (add-zero _))
timed-at l (Some a) (Some b) p e = stepped-at l a b p e ∙ ap (at p l +◌) (sym (rw (zero-cond (eqb untimed_at p)) (ap (cond (eqb ticks_at p) (forward a b) 0 +◌) (add-zero _))))

timed-sized : (l : Ledger) (a s : Stamp) → Sized l → Sized (timed_by a l s)
timed-sized l a None e = plus-sized l untimed_at 1 e
timed-sized l None (Some b) e = e
timed-sized l (Some a) (Some b) e = stepped-sized l a b e

timed-last : (l : Ledger) (a s : Stamp) → l.last ≡ a → (timed_by a l s).last ≡ latest a s
timed-last l a None e = plus-last l untimed_at 1 ∙ e
timed-last l None (Some b) e = refl
timed-last l (Some a) (Some b) e = refl

-- ---- an entry
abbrev pub stamp_in : Entry → Stamp
stamp_in (Entry.Delivered d) = d.stamp
stamp_in (Entry.Still d) = None
stamp_in (Entry.Dropped w n) = None
stamp_in (Entry.UnderWay n) = None
stamp_in (Entry.Stray n) = None
stamp_in (Entry.Unreadable n) = None
stamp_in (Entry.Headers n) = None
stamp_in Entry.Lost = None
stamp_in Entry.Idle = None

abbrev pub gain : ℕ → Stamp → Entry → ℕ
gain p a (Entry.Delivered d) = entry_gain (place_of Account.Delivered) d.len p + time_gain a d.stamp p
gain p a (Entry.Still d) = entry_gain (place_of Account.Still) d.len p
gain p a (Entry.Dropped w n) = entry_gain (place_of (account_for w)) n p
gain p a (Entry.UnderWay n) = entry_gain (place_of Account.UnderWay) n p
gain p a (Entry.Stray n) = entry_gain (place_of Account.Stray) n p
gain p a (Entry.Unreadable n) = entry_gain (place_of Account.Unreadable) n p
gain p a (Entry.Headers n) = entry_gain (place_of Account.Headers) n p
gain p a Entry.Lost = cond (eqb lost_at p) 1 0
gain p a Entry.Idle = cond (eqb idle_at p) 1 0

delivered-at : (l : Ledger) (n : ℕ) (s : Stamp) (p : ℕ) → Sized l → at p (timed_of (entered_of l Account.Delivered n) s) ≡ at p l + (entry_gain (place_of Account.Delivered) n p + time_gain l.last s p)
unfolding timed_of
delivered-at l n s p e =
    ap (λ (a : Stamp). at p (timed_by a (entered_of l Account.Delivered n) s)) (entered-last l Account.Delivered n)
    ∙ timed-at (entered_of l Account.Delivered n) l.last s p (entered-sized l Account.Delivered n e)
    ∙ ap (◌+ time_gain l.last s p) (entered_at l Account.Delivered n p e)
    ∙ add_assoc _ _ _

pub post-at : (l : Ledger) (e : Entry) (p : ℕ) → Sized l → at p (post_of l e) ≡ at p l + gain p l.last e
unfolding post_of
post-at l (Entry.Delivered d) p z = delivered-at l d.len d.stamp p z
post-at l (Entry.Still d) p z = entered_at l Account.Still d.len p z
post-at l (Entry.Dropped w n) p z = entered_at l (account_for w) n p z
post-at l (Entry.UnderWay n) p z = entered_at l Account.UnderWay n p z
post-at l (Entry.Stray n) p z = entered_at l Account.Stray n p z
post-at l (Entry.Unreadable n) p z = entered_at l Account.Unreadable n p z
post-at l (Entry.Headers n) p z = entered_at l Account.Headers n p z
post-at l Entry.Lost p z = plus-at l lost_at 1 p z (omega arith)
post-at l Entry.Idle p z = plus-at l idle_at 1 p z (omega arith)

pub post-sized : (l : Ledger) (e : Entry) → Sized l → Sized (post_of l e)
unfolding post_of timed_of
post-sized l (Entry.Delivered d) z = timed-sized (entered_of l Account.Delivered d.len) (entered_of l Account.Delivered d.len).last d.stamp (entered-sized l Account.Delivered d.len z)
post-sized l (Entry.Still d) z = entered-sized l Account.Still d.len z
post-sized l (Entry.Dropped w n) z = entered-sized l (account_for w) n z
post-sized l (Entry.UnderWay n) z = entered-sized l Account.UnderWay n z
post-sized l (Entry.Stray n) z = entered-sized l Account.Stray n z
post-sized l (Entry.Unreadable n) z = entered-sized l Account.Unreadable n z
post-sized l (Entry.Headers n) z = entered-sized l Account.Headers n z
post-sized l Entry.Lost z = plus-sized l lost_at 1 z
post-sized l Entry.Idle z = plus-sized l idle_at 1 z

abbrev pub last_after : Stamp → Entry → Stamp
last_after a (Entry.Delivered d) = latest a d.stamp
last_after a (Entry.Still d) = a
last_after a (Entry.Dropped w n) = a
last_after a (Entry.UnderWay n) = a
last_after a (Entry.Stray n) = a
last_after a (Entry.Unreadable n) = a
last_after a (Entry.Headers n) = a
last_after a Entry.Lost = a
last_after a Entry.Idle = a

post-last : (l : Ledger) (e : Entry) → (post_of l e).last ≡ last_after l.last e
unfolding post_of timed_of
post-last l (Entry.Delivered d) =
    ap (λ (a : Stamp). (timed_by a (entered_of l Account.Delivered d.len) d.stamp).last) (entered-last l Account.Delivered d.len)
    ∙ timed-last (entered_of l Account.Delivered d.len) l.last d.stamp (entered-last l Account.Delivered d.len)
post-last l (Entry.Still d) = entered-last l Account.Still d.len
post-last l (Entry.Dropped w n) = entered-last l (account_for w) n
post-last l (Entry.UnderWay n) = entered-last l Account.UnderWay n
post-last l (Entry.Stray n) = entered-last l Account.Stray n
post-last l (Entry.Unreadable n) = entered-last l Account.Unreadable n
post-last l (Entry.Headers n) = entered-last l Account.Headers n
post-last l Entry.Lost = plus-last l lost_at 1
post-last l Entry.Idle = plus-last l idle_at 1

-- ---- a list of entries
abbrev pub posts : Ledger → List Entry → Ledger
posts l [] = l
posts l (e ∷ es) = posts (post_of l e) es

pub posts-append : (l : Ledger) (xs ys : List Entry) → posts l (xs ++ ys) ≡ posts (posts l xs) ys
posts-append l [] ys = refl
posts-append l (x ∷ xs) ys = posts-append (post_of l x) xs ys

pub posts-sized : (l : Ledger) (es : List Entry) → Sized l → Sized (posts l es)
posts-sized l [] z = z
posts-sized l (e ∷ es) z = posts-sized (post_of l e) es (post-sized l e z)

pub total-append : (m : Entry → ℕ) (xs ys : List Entry) → total m (xs ++ ys) ≡ total m xs + total m ys
total-append m [] ys = sym (zero-add _)
total-append m (x ∷ xs) ys = rw (total-append m xs ys) (sym (add_assoc _ _ _))

-- a place where each entry gains by itself
pub place-law : (p : ℕ) (m : Entry → ℕ) → ((a : Stamp) (e : Entry) → gain p a e ≡ m e) → (l : Ledger) (es : List Entry) → Sized l → at p (posts l es) ≡ at p l + total m es
place-law p m f l [] z = sym (add-zero _)
place-law p m f l (e ∷ es) z =
    place-law p m f (post_of l e) es (post-sized l e z)
    ∙ ap (◌+ total m es) (post-at l e p z ∙ ap (at p l +◌) (f l.last e))
    ∙ add_assoc _ _ _

-- a place where the steps count
abbrev pub from : Stamp → List ℕ → List ℕ
from None l = l
from (Some a) l = a ∷ l

since-law : (f : ℕ → ℕ → ℕ) (a s : Stamp) (l : List ℕ) → since f a s + between f (from (latest a s) l) ≡ between f (from a (stamp_list s ++ l))
since-law f a None l = zero-add _
since-law f None (Some b) l = zero-add _
since-law f (Some a) (Some b) l = refl

abbrev since_entry : (ℕ → ℕ → ℕ) → Stamp → Entry → ℕ
since_entry f a e = since f a (stamp_in e)

entry-law : (f : ℕ → ℕ → ℕ) (a : Stamp) (e : Entry) (l : List ℕ) → since f a (stamp_in e) + between f (from (last_after a e) l) ≡ between f (from a (stamps_of e ++ l))
entry-law f a (Entry.Delivered d) l = since-law f a d.stamp l
entry-law f a (Entry.Still d) l = zero-add _
entry-law f a (Entry.Dropped w n) l = zero-add _
entry-law f a (Entry.UnderWay n) l = zero-add _
entry-law f a (Entry.Stray n) l = zero-add _
entry-law f a (Entry.Unreadable n) l = zero-add _
entry-law f a (Entry.Headers n) l = zero-add _
entry-law f a Entry.Lost l = zero-add _
entry-law f a Entry.Idle l = zero-add _

between-nil : (f : ℕ → ℕ → ℕ) (a : Stamp) → between f (from a []) ≡ 0
between-nil f None = refl
between-nil f (Some a) = refl

pub step-law : (p : ℕ) (f : ℕ → ℕ → ℕ) → ((a : Stamp) (e : Entry) → gain p a e ≡ since f a (stamp_in e)) → (l : Ledger) (es : List Entry) → Sized l
    → at p (posts l es) ≡ at p l + between f (from l.last (stamps es))
step-law p f g l [] z = rw between-nil (sym (add-zero _))
step-law p f g l (e ∷ es) z =
    step-law p f g (post_of l e) es (post-sized l e z)
    ∙ ap (λ (a : Stamp). at p (post_of l e) + between f (from a (stamps es))) (post-last l e)
    ∙ ap (◌+ between f (from (last_after l.last e) (stamps es))) (post-at l e p z ∙ ap (at p l +◌) (g l.last e))
    ∙ add_assoc _ _ _
    ∙ ap (at p l +◌) (entry-law f l.last e (stamps es))

-- and the last stamp, which the next step is taken from
last-from : (a s : Stamp) (l : List ℕ) → last_stamped (from (latest a s) l) ≡ last_stamped (from a (stamp_list s ++ l))
last-from a None l = refl
last-from None (Some b) l = refl
last-from (Some a) (Some b) l = refl

entry-last : (a : Stamp) (e : Entry) (l : List ℕ) → last_stamped (from (last_after a e) l) ≡ last_stamped (from a (stamps_of e ++ l))
entry-last a (Entry.Delivered d) l = last-from a d.stamp l
entry-last a (Entry.Still d) l = refl
entry-last a (Entry.Dropped w n) l = refl
entry-last a (Entry.UnderWay n) l = refl
entry-last a (Entry.Stray n) l = refl
entry-last a (Entry.Unreadable n) l = refl
entry-last a (Entry.Headers n) l = refl
entry-last a Entry.Lost l = refl
entry-last a Entry.Idle l = refl

last-nil : (a : Stamp) → a ≡ last_stamped (from a [])
last-nil None = refl
last-nil (Some x) = refl

pub last-law : (l : Ledger) (es : List Entry) → (posts l es).last ≡ last_stamped (from l.last (stamps es))
last-law l [] = last-nil l.last
last-law l (e ∷ es) = last-law (post_of l e) es ∙ ap (λ (a : Stamp). last_stamped (from a (stamps es))) (post-last l e) ∙ entry-last l.last e (stamps es)

-- ---- the places of the document's accounts
-- below them the time gains nothing
low-time : (a s : Stamp) (p : ℕ) → p < ticks_at → time_gain a s p ≡ 0
low-time a s p h = rw (ne_eqb ticks_at p (λ z. omega arith), ne_eqb backward_at p (λ z. omega arith), ne_eqb untimed_at p (λ z. omega arith))

pub count-gain : (k : ℕ) → k < account_count → (a : Stamp) (e : Entry) → gain (count_at k) a e ≡ one_in k e
count-gain k h a (Entry.Delivered d) = rw (count-gains (place_of Account.Delivered) d.len k, low-time a d.stamp (2 * k) (omega arith)) (add-zero _)
count-gain k h a (Entry.Still d) = count-gains (place_of Account.Still) d.len k
count-gain k h a (Entry.Dropped w n) = count-gains (place_of (account_for w)) n k
count-gain k h a (Entry.UnderWay n) = count-gains (place_of Account.UnderWay) n k
count-gain k h a (Entry.Stray n) = count-gains (place_of Account.Stray) n k
count-gain k h a (Entry.Unreadable n) = count-gains (place_of Account.Unreadable) n k
count-gain k h a (Entry.Headers n) = count-gains (place_of Account.Headers) n k
count-gain k h a Entry.Lost = rw (ne_eqb lost_at (count_at k) (λ z. omega arith), ne_eqb lost_line k (λ z. omega arith))
count-gain k h a Entry.Idle = rw (ne_eqb idle_at (2 * k) (λ z. omega arith), ne_eqb idle_line k (λ z. omega arith))

zero-part : (b : Bool) → ◌≡◌ {A = ℕ} 0 (cond b 0 0)
zero-part true = refl
zero-part false = refl

pub bytes-gain : (k : ℕ) → k < account_count → (a : Stamp) (e : Entry) → gain (bytes_at k) a e ≡ part_in k e
bytes-gain k h a (Entry.Delivered d) = rw (bytes-gains (place_of Account.Delivered) d.len k, low-time a d.stamp (2 * k + 1) (omega arith)) (add-zero _)
bytes-gain k h a (Entry.Still d) = bytes-gains (place_of Account.Still) d.len k
bytes-gain k h a (Entry.Dropped w n) = bytes-gains (place_of (account_for w)) n k
bytes-gain k h a (Entry.UnderWay n) = bytes-gains (place_of Account.UnderWay) n k
bytes-gain k h a (Entry.Stray n) = bytes-gains (place_of Account.Stray) n k
bytes-gain k h a (Entry.Unreadable n) = bytes-gains (place_of Account.Unreadable) n k
bytes-gain k h a (Entry.Headers n) = bytes-gains (place_of Account.Headers) n k
bytes-gain k h a Entry.Lost = rw (ne_eqb lost_at (2 * k + 1) (λ z. omega arith)) (zero-part (eqb lost_line k))
bytes-gain k h a Entry.Idle = rw (ne_eqb idle_at (2 * k + 1) (λ z. omega arith)) (zero-part (eqb idle_line k))

-- the other counts: Q says what each entry gains there, by its line or its stamp
module _ (p : ℕ) (high : lost_at ≤ p) where
  account-gain : (w : Reason) (n : ℕ) → entry_gain (place_of (account_for w)) n p ≡ 0
  account-gain w n = others_keep (place_of (account_for w)) n p (place-lt (account_for w)) high

  pub single-gain : (m : Stamp → Entry → ℕ) → ((a : Stamp) (d : Delivery) → time_gain a d.stamp p ≡ m a (Entry.Delivered d)) → ((a : Stamp) (d : Delivery) → 0 ≡ m a (Entry.Still d)) → ((a : Stamp) (w : Reason) (n : ℕ) → 0 ≡ m a (Entry.Dropped w n))
      → ((a : Stamp) (n : ℕ) → 0 ≡ m a (Entry.UnderWay n)) → ((a : Stamp) (n : ℕ) → 0 ≡ m a (Entry.Stray n)) → ((a : Stamp) (n : ℕ) → 0 ≡ m a (Entry.Unreadable n)) → ((a : Stamp) (n : ℕ) → 0 ≡ m a (Entry.Headers n))
      → ((a : Stamp) → cond (eqb lost_at p) 1 0 ≡ m a Entry.Lost) → ((a : Stamp) → cond (eqb idle_at p) 1 0 ≡ m a Entry.Idle) → (a : Stamp) (e : Entry) → gain p a e ≡ m a e
  single-gain m f i g u v w x y z a (Entry.Delivered d) = rw (others_keep (place_of Account.Delivered) d.len p (place-lt Account.Delivered) high) (zero-add _ ∙ f a d)
  single-gain m f i g u v w x y z a (Entry.Still d) = others_keep (place_of Account.Still) d.len p (place-lt Account.Still) high ∙ i a d
  single-gain m f i g u v w x y z a (Entry.Dropped r n) = account-gain r n ∙ g a r n
  single-gain m f i g u v w x y z a (Entry.UnderWay n) = others_keep (place_of Account.UnderWay) n p (place-lt Account.UnderWay) high ∙ u a n
  single-gain m f i g u v w x y z a (Entry.Stray n) = others_keep (place_of Account.Stray) n p (place-lt Account.Stray) high ∙ v a n
  single-gain m f i g u v w x y z a (Entry.Unreadable n) = others_keep (place_of Account.Unreadable) n p (place-lt Account.Unreadable) high ∙ w a n
  single-gain m f i g u v w x y z a (Entry.Headers n) = others_keep (place_of Account.Headers) n p (place-lt Account.Headers) high ∙ x a n
  single-gain m f i g u v w x y z a Entry.Lost = y a
  single-gain m f i g u v w x y z a Entry.Idle = z a
