-- One event more at the end of a list: what it does to the readable transfers, and to the last run.
use mathlib.Core.Path.{◌≡◌, refl, sym, ◌∙◌, ap}
use mathlib.Core.Bool.{Bool, true, false, cond, not, ◌||◌, beq}
use mathlib.Core.List.{List, [], ◌∷◌, ◌++◌}
use Prim.Native.Nat.{ℕ}
use Rattle.session_rules.specs.declared.Header.{Header}
use Rattle.books.specs.Rule.{Event, idle, unreadable, missing, readable, mark, Seen, spoiled, marks, readables, same, ahead, runs}
use Rattle.books.specs.Answer.{last_of}
use Rattle.books.proofs.Cut.{first, later, runs-cut}

-- an unreadable or lost transfer came after the last readable one
abbrev pub pending : Bool → List Event → Bool
pending b [] = b
pending b (idle ∷ es) = pending b es
pending b (unreadable n ∷ es) = pending true es
pending b (missing ∷ es) = pending true es
pending b (readable h d ∷ es) = pending false es
pending b (mark ∷ es) = pending b es

abbrev pub seen_with : Header → List ℕ → Bool → Seen
seen_with h d b = record { header = h; load = d; before = b; after = false; marked = false }

-- a gap after the last transfer, unless a mark came before it; and a mark after it
abbrev pub spoilt : Seen → Seen
spoilt t = record { header = t.header; load = t.load; before = t.before; after = t.after || not t.marked; marked = t.marked }

abbrev pub noted : Seen → Seen
noted t = record { header = t.header; load = t.load; before = t.before; after = t.after; marked = true }

abbrev pub on_last : (Seen → Seen) → List Seen → List Seen
on_last f [] = []
on_last f (t ∷ []) = f t ∷ []
on_last f (t ∷ (u ∷ us)) = t ∷ on_last f (u ∷ us)

abbrev pub spoil_last : List Seen → List Seen
spoil_last r = on_last spoilt r

abbrev pub mark_last : List Seen → List Seen
mark_last r = on_last noted r

-- ---- the readable transfers
-- an event that spoils nothing, or marks nothing, by itself
spoiled-same : (e : Event) → spoiled (e ∷ []) ≡ false → (es : List Event) → spoiled (es ++ (e ∷ [])) ≡ spoiled es
spoiled-same e q [] = q
spoiled-same e q (idle ∷ es) = spoiled-same e q es
spoiled-same e q (unreadable n ∷ es) = refl
spoiled-same e q (missing ∷ es) = refl
spoiled-same e q (readable h d ∷ es) = refl
spoiled-same e q (mark ∷ es) = refl

marks-same : (e : Event) → marks (e ∷ []) ≡ false → (es : List Event) → marks (es ++ (e ∷ [])) ≡ marks es
marks-same e q [] = q
marks-same e q (idle ∷ es) = marks-same e q es
marks-same e q (unreadable n ∷ es) = marks-same e q es
marks-same e q (missing ∷ es) = marks-same e q es
marks-same e q (readable h d ∷ es) = refl
marks-same e q (mark ∷ es) = refl

idle-more : (b : Bool) (es : List Event) → readables b (es ++ (idle ∷ [])) ≡ readables b es
idle-more b [] = refl
idle-more b (idle ∷ es) = idle-more b es
idle-more b (unreadable n ∷ es) = idle-more true es
idle-more b (missing ∷ es) = idle-more true es
idle-more b (readable h d ∷ es) = rw (spoiled-same idle refl es, marks-same idle refl es, idle-more false es)
idle-more b (mark ∷ es) = idle-more b es

read_more : (h : Header) (d : List ℕ) (b : Bool) (es : List Event) → readables b (es ++ (readable h d ∷ [])) ≡ readables b es ++ (seen_with h d (pending b es) ∷ [])
read_more h d b [] = refl
read_more h d b (idle ∷ es) = read_more h d b es
read_more h d b (unreadable n ∷ es) = read_more h d true es
read_more h d b (missing ∷ es) = read_more h d true es
read_more h d b (readable g c ∷ es) = rw (spoiled-same (readable h d) refl es, marks-same (readable h d) refl es, read_more h d false es)
read_more h d b (mark ∷ es) = read_more h d b es

-- spoiled by one missing more: where no readable one comes after, and no mark
none_after : (b : Bool) (es : List Event) → readables b es ≡ [] → spoiled (es ++ (missing ∷ [])) ≡ (spoiled es || not (marks es))
none_after b [] e = refl
none_after b (idle ∷ es) e = none_after b es e
none_after b (unreadable n ∷ es) e = refl
none_after b (missing ∷ es) e = refl
none_after b (readable h d ∷ es) e = cc
none_after b (mark ∷ es) e = refl

some_after : (b : Bool) (es : List Event) (u : Seen) (us : List Seen) → readables b es ≡ u ∷ us → spoiled (es ++ (missing ∷ [])) ≡ spoiled es
some_after b [] u us e = cc
some_after b (idle ∷ es) u us e = some_after b es u us e
some_after b (unreadable n ∷ es) u us e = refl
some_after b (missing ∷ es) u us e = refl
some_after b (readable h d ∷ es) u us e = refl
some_after b (mark ∷ es) u us e = refl

gap_more : (b : Bool) (es : List Event) → readables b (es ++ (missing ∷ [])) ≡ spoil_last (readables b es)
gap_more b [] = refl
gap_more b (idle ∷ es) = gap_more b es
gap_more b (unreadable n ∷ es) = gap_more true es
gap_more b (missing ∷ es) = gap_more true es
gap_more b (readable h d ∷ es) = rw (gap_more false es, marks-same missing refl es) (go (readables false es) refl)
  where
    go : (ts : List Seen) → readables false es ≡ ts
        → record { header = h; load = d; before = b; after = spoiled (es ++ (missing ∷ [])); marked = marks es } ∷ spoil_last ts
        ≡ spoil_last (record { header = h; load = d; before = b; after = spoiled es; marked = marks es } ∷ ts)
    go [] e = rw (none_after false es e)
    go (u ∷ us) e = rw (some_after false es u us e)
gap_more b (mark ∷ es) = gap_more b es

-- an unreadable transfer is as a lost one
unread-spoiled : (n : ℕ) (es : List Event) → spoiled (es ++ (unreadable n ∷ [])) ≡ spoiled (es ++ (missing ∷ []))
unread-spoiled n [] = refl
unread-spoiled n (idle ∷ es) = unread-spoiled n es
unread-spoiled n (unreadable m ∷ es) = refl
unread-spoiled n (missing ∷ es) = refl
unread-spoiled n (readable h d ∷ es) = refl
unread-spoiled n (mark ∷ es) = refl

unread-more : (n : ℕ) (b : Bool) (es : List Event) → readables b (es ++ (unreadable n ∷ [])) ≡ readables b (es ++ (missing ∷ []))
unread-more n b [] = refl
unread-more n b (idle ∷ es) = unread-more n b es
unread-more n b (unreadable m ∷ es) = unread-more n true es
unread-more n b (missing ∷ es) = unread-more n true es
unread-more n b (readable h d ∷ es) = rw (unread-spoiled n es, marks-same (unreadable n) refl es, marks-same missing refl es, unread-more n false es)
unread-more n b (mark ∷ es) = unread-more n b es

-- marked by one mark more: where no readable one comes after
none-marks : (b : Bool) (es : List Event) → readables b es ≡ [] → marks (es ++ (mark ∷ [])) ≡ true
none-marks b [] e = refl
none-marks b (idle ∷ es) e = none-marks b es e
none-marks b (unreadable n ∷ es) e = none-marks true es e
none-marks b (missing ∷ es) e = none-marks true es e
none-marks b (readable h d ∷ es) e = cc
none-marks b (mark ∷ es) e = refl

some-marks : (b : Bool) (es : List Event) (u : Seen) (us : List Seen) → readables b es ≡ u ∷ us → marks (es ++ (mark ∷ [])) ≡ marks es
some-marks b [] u us e = cc
some-marks b (idle ∷ es) u us e = some-marks b es u us e
some-marks b (unreadable n ∷ es) u us e = some-marks true es u us e
some-marks b (missing ∷ es) u us e = some-marks true es u us e
some-marks b (readable h d ∷ es) u us e = refl
some-marks b (mark ∷ es) u us e = refl

mark-more : (b : Bool) (es : List Event) → readables b (es ++ (mark ∷ [])) ≡ mark_last (readables b es)
mark-more b [] = refl
mark-more b (idle ∷ es) = mark-more b es
mark-more b (unreadable n ∷ es) = mark-more true es
mark-more b (missing ∷ es) = mark-more true es
mark-more b (readable h d ∷ es) = rw (mark-more false es, spoiled-same mark refl es) (go (readables false es) refl)
  where
    go : (ts : List Seen) → readables false es ≡ ts
        → record { header = h; load = d; before = b; after = spoiled es; marked = marks (es ++ (mark ∷ [])) } ∷ mark_last ts
        ≡ mark_last (record { header = h; load = d; before = b; after = spoiled es; marked = marks es } ∷ ts)
    go [] e = rw (none-marks false es e)
    go (u ∷ us) e = rw (some-marks false es u us e)
mark-more b (mark ∷ es) = mark-more b es

-- ---- what is pending
abbrev pub pends : Event → Bool → Bool
pends idle b = b
pends (unreadable n) b = true
pends missing b = true
pends (readable h d) b = false
pends mark b = b

pub pending-more : (e : Event) (b : Bool) (es : List Event) → pending b (es ++ (e ∷ [])) ≡ pends e (pending b es)
pending-more idle b [] = refl
pending-more (unreadable n) b [] = refl
pending-more missing b [] = refl
pending-more (readable h d) b [] = refl
pending-more mark b [] = refl
pending-more e b (idle ∷ es) = pending-more e b es
pending-more e b (unreadable n ∷ es) = pending-more e true es
pending-more e b (missing ∷ es) = pending-more e true es
pending-more e b (readable h d ∷ es) = pending-more e false es
pending-more e b (mark ∷ es) = pending-more e b es

-- ---- the runs
-- the last run with one transfer more: it goes on, or another begins
abbrev pub grown : List Seen → Seen → List Seen
grown [] t = t ∷ []
grown (u ∷ us) t = cond (same u t) (u ∷ (us ++ (t ∷ []))) (t ∷ [])

abbrev pub added : List Seen → Seen → List (List Seen)
added [] t = (t ∷ []) ∷ []
added (u ∷ us) t = cond (same u t) ((u ∷ (us ++ (t ∷ []))) ∷ []) ((u ∷ us) ∷ (t ∷ []) ∷ [])

abbrev pub added_to : List (List Seen) → Seen → List (List Seen)
added_to [] t = (t ∷ []) ∷ []
added_to (r ∷ []) t = added r t
added_to (r ∷ (q ∷ rs)) t = r ∷ added_to (q ∷ rs) t

ahead-added : (x : Seen) (rs : List (List Seen)) (t : Seen) → ahead x (added_to rs t) ≡ added_to (ahead x rs) t
ahead-added x [] t = refl
ahead-added x ([] ∷ []) t = refl
ahead-added x ([] ∷ (q ∷ rs)) t = refl
ahead-added x ((u ∷ us) ∷ []) t = left (same u t) ∙ both x.header.fid u.header.fid t.header.fid ∙ sym (right (same x u))
  where
    whole : List Seen
    whole = u ∷ (us ++ (t ∷ []))

    apart : List (List Seen)
    apart = (u ∷ us) ∷ (t ∷ []) ∷ []

    left : (k : Bool) → ahead x (cond k (whole ∷ []) apart) ≡ cond k (cond (same x u) ((x ∷ whole) ∷ []) ((x ∷ []) ∷ whole ∷ [])) (cond (same x u) ((x ∷ u ∷ us) ∷ (t ∷ []) ∷ []) ((x ∷ []) ∷ apart))
    left true = refl
    left false = refl

    right : (k : Bool) → added_to (cond k ((x ∷ u ∷ us) ∷ []) ((x ∷ []) ∷ (u ∷ us) ∷ [])) t
        ≡ cond k (cond (same x t) ((x ∷ whole) ∷ []) ((x ∷ u ∷ us) ∷ (t ∷ []) ∷ [])) ((x ∷ []) ∷ cond (same u t) (whole ∷ []) apart)
    right true = refl
    right false = refl

    both : (a b c : Bool)
        → cond (beq b c) (cond (beq a b) ((x ∷ whole) ∷ []) ((x ∷ []) ∷ whole ∷ [])) (cond (beq a b) ((x ∷ u ∷ us) ∷ (t ∷ []) ∷ []) ((x ∷ []) ∷ apart))
        ≡ cond (beq a b) (cond (beq a c) ((x ∷ whole) ∷ []) ((x ∷ u ∷ us) ∷ (t ∷ []) ∷ [])) ((x ∷ []) ∷ cond (beq b c) (whole ∷ []) apart)
    both true true true = refl
    both true true false = refl
    both true false true = refl
    both true false false = refl
    both false true true = refl
    both false true false = refl
    both false false true = refl
    both false false false = refl
ahead-added x ((u ∷ us) ∷ (q ∷ rs)) t = go (same x u)
  where
    go : (b : Bool) → cond b ((x ∷ u ∷ us) ∷ added_to (q ∷ rs) t) ((x ∷ []) ∷ (u ∷ us) ∷ added_to (q ∷ rs) t) ≡ added_to (cond b ((x ∷ u ∷ us) ∷ q ∷ rs) ((x ∷ []) ∷ (u ∷ us) ∷ q ∷ rs)) t
    go true = refl
    go false = refl

runs-added : (ts : List Seen) (t : Seen) → runs (ts ++ (t ∷ [])) ≡ added_to (runs ts) t
runs-added [] t = refl
runs-added (x ∷ ts) t = ap (ahead x) (runs-added ts t) ∙ ahead-added x (runs ts) t

last_under : (r q : List Seen) (rs : List (List Seen)) (t : Seen) → last_of (r ∷ added_to (q ∷ rs) t) ≡ last_of (added_to (q ∷ rs) t)
last_under r [] [] t = refl
last_under r (u ∷ us) [] t = go (same u t)
  where
    go : (b : Bool) → last_of (r ∷ cond b ((u ∷ (us ++ (t ∷ []))) ∷ []) ((u ∷ us) ∷ (t ∷ []) ∷ [])) ≡ last_of (cond b ((u ∷ (us ++ (t ∷ []))) ∷ []) ((u ∷ us) ∷ (t ∷ []) ∷ []))
    go true = refl
    go false = refl
last_under r q (p ∷ rs) t = refl

last-added : (rs : List (List Seen)) (t : Seen) → last_of (added_to rs t) ≡ grown (last_of rs) t
last-added [] t = refl
last-added ([] ∷ []) t = refl
last-added ((u ∷ us) ∷ []) t = go (same u t)
  where
    go : (b : Bool) → last_of (cond b ((u ∷ (us ++ (t ∷ []))) ∷ []) ((u ∷ us) ∷ (t ∷ []) ∷ [])) ≡ cond b (u ∷ (us ++ (t ∷ []))) (t ∷ [])
    go true = refl
    go false = refl
last-added (r ∷ (q ∷ rs)) t = last_under r q rs t ∙ last-added (q ∷ rs) t

-- the last transfer changed, but for its header
abbrev pub on_runs : (Seen → Seen) → List (List Seen) → List (List Seen)
on_runs f [] = []
on_runs f (r ∷ []) = on_last f r ∷ []
on_runs f (r ∷ (q ∷ rs)) = r ∷ on_runs f (q ∷ rs)

module _ (f : Seen → Seen) (keeps : (t : Seen) → (f t).header ≡ t.header) where
  same-keeps : (x u : Seen) → same x (f u) ≡ same x u
  same-keeps x u = ap (λ (h : Header). beq x.header.fid h.fid) (keeps u)

  ahead-last : (x u : Seen) (us : List Seen) (rs : List (List Seen)) → ahead x (on_runs f ((u ∷ us) ∷ rs)) ≡ on_runs f (ahead x ((u ∷ us) ∷ rs))
  ahead-last x u [] [] = ap (λ (b : Bool). cond b ((x ∷ f u ∷ []) ∷ []) ((x ∷ []) ∷ (f u ∷ []) ∷ [])) (same-keeps x u) ∙ go (same x u)
    where
      go : (b : Bool) → cond b ((x ∷ f u ∷ []) ∷ []) ((x ∷ []) ∷ (f u ∷ []) ∷ []) ≡ on_runs f (cond b ((x ∷ u ∷ []) ∷ []) ((x ∷ []) ∷ (u ∷ []) ∷ []))
      go true = refl
      go false = refl
  ahead-last x u (v ∷ vs) [] = go (same x u)
    where
      go : (b : Bool) → cond b ((x ∷ u ∷ on_last f (v ∷ vs)) ∷ []) ((x ∷ []) ∷ (u ∷ on_last f (v ∷ vs)) ∷ []) ≡ on_runs f (cond b ((x ∷ u ∷ v ∷ vs) ∷ []) ((x ∷ []) ∷ (u ∷ v ∷ vs) ∷ []))
      go true = refl
      go false = refl
  ahead-last x u us (q ∷ rs) = go (same x u)
    where
      go : (b : Bool) → cond b ((x ∷ u ∷ us) ∷ on_runs f (q ∷ rs)) ((x ∷ []) ∷ (u ∷ us) ∷ on_runs f (q ∷ rs)) ≡ on_runs f (cond b ((x ∷ u ∷ us) ∷ q ∷ rs) ((x ∷ []) ∷ (u ∷ us) ∷ q ∷ rs))
      go true = refl
      go false = refl

  runs_last : (ts : List Seen) → runs (on_last f ts) ≡ on_runs f (runs ts)
  runs_last [] = refl
  runs_last (x ∷ []) = refl
  runs_last (x ∷ (y ∷ ys)) =
      ap (ahead x) (runs_last (y ∷ ys))
      ∙ rw (runs-cut y ys) (ahead-last x y (first y.header.fid ys) (runs (later y.header.fid ys)))

  last-above : (r q : List Seen) (rs : List (List Seen)) → last_of (r ∷ on_runs f (q ∷ rs)) ≡ last_of (on_runs f (q ∷ rs))
  last-above r q [] = refl
  last-above r q (p ∷ rs) = refl

  last-changed : (rs : List (List Seen)) → last_of (on_runs f rs) ≡ on_last f (last_of rs)
  last-changed [] = refl
  last-changed (r ∷ []) = refl
  last-changed (r ∷ (q ∷ rs)) = last-above r q rs ∙ last-changed (q ∷ rs)

-- ---- ALL RUNS, and the last, with one event more
abbrev pub runs_in : List Event → List (List Seen)
runs_in es = runs (readables false es)

abbrev pub runs_by : Event → List (List Seen) → Bool → List (List Seen)
runs_by idle rs b = rs
runs_by (unreadable n) rs b = on_runs spoilt rs
runs_by missing rs b = on_runs spoilt rs
runs_by (readable h d) rs b = added_to rs (seen_with h d b)
runs_by mark rs b = on_runs noted rs

pub runs-more : (e : Event) (es : List Event) → runs_in (es ++ (e ∷ [])) ≡ runs_by e (runs_in es) (pending false es)
runs-more idle es = ap runs (idle-more false es)
runs-more (unreadable n) es = ap runs (unread-more n false es ∙ gap_more false es) ∙ runs_last spoilt (λ t. refl) (readables false es)
runs-more missing es = ap runs (gap_more false es) ∙ runs_last spoilt (λ t. refl) (readables false es)
runs-more (readable h d) es = ap runs (read_more h d false es) ∙ runs-added (readables false es) (seen_with h d (pending false es))
runs-more mark es = ap runs (mark-more false es) ∙ runs_last noted (λ t. refl) (readables false es)

abbrev pub last_in : List Event → List Seen
last_in es = last_of (runs_in es)

abbrev pub last_by : Event → List Seen → Bool → List Seen
last_by idle r b = r
last_by (unreadable n) r b = spoil_last r
last_by missing r b = spoil_last r
last_by (readable h d) r b = grown r (seen_with h d b)
last_by mark r b = mark_last r

last_runs : (e : Event) (rs : List (List Seen)) (b : Bool) → last_of (runs_by e rs b) ≡ last_by e (last_of rs) b
last_runs idle rs b = refl
last_runs (unreadable n) rs b = last-changed spoilt (λ t. refl) rs
last_runs missing rs b = last-changed spoilt (λ t. refl) rs
last_runs (readable h d) rs b = last-added rs (seen_with h d b)
last_runs mark rs b = last-changed noted (λ t. refl) rs

pub last_more : (e : Event) (es : List Event) → last_in (es ++ (e ∷ [])) ≡ last_by e (last_in es) (pending false es)
last_more e es = ap last_of (runs-more e es) ∙ last_runs e (runs_in es) (pending false es)
