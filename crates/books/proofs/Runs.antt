-- That `runs` cuts a list into the longest runs of equal FID, and `frame_of` and `stray_of` a run in two.
use mathlib.Core.Path.{◌≡◌, refl, sym, ◌∙◌, ap}
use mathlib.Core.Bool.{Bool, true, false, cond, beq}
use mathlib.Core.List.{List, [], ◌∷◌, ◌++◌}
use Rattle.sizes.specs.declared.Opening.{Opening}
use Rattle.books.specs.Longest.{concat, Alike, Unlike, Longest}
use Rattle.books.specs.Rule.{Seen, same, ahead, runs, closes, frame_of, stray_of}

pub runs-concat : (ts : List Seen) → concat (runs ts) ≡ ts
runs-concat [] = refl
runs-concat (t ∷ ts) = go (runs ts) ∙ ap (t ∷◌) (runs-concat ts)
  where
    go : (rs : List (List Seen)) → concat (ahead t rs) ≡ t ∷ concat rs
    go [] = refl
    go ([] ∷ rs) = refl
    go ((u ∷ us) ∷ rs) = pick (same t u)
      where
        pick : (b : Bool) → concat (cond b ((t ∷ u ∷ us) ∷ rs) ((t ∷ []) ∷ (u ∷ us) ∷ rs)) ≡ t ∷ concat ((u ∷ us) ∷ rs)
        pick true = refl
        pick false = refl

beq-eq : (a b : Bool) → beq a b ≡ true → a ≡ b
beq-eq true true e = refl
beq-eq false false e = refl
beq-eq true false e = sym e
beq-eq false true e = e

alike-eq : (t u : Seen) → t.header.fid ≡ u.header.fid → (us : List Seen) → Alike u us → Alike t us
alike-eq t u e [] h = tt
alike-eq t u e (v ∷ vs) h = (rw e h.0, alike-eq t u e vs h.1)

unlike-eq : (t u : Seen) → t.header.fid ≡ u.header.fid → (rs : List (List Seen)) → Unlike u rs → Unlike t rs
unlike-eq t u e [] h = tt
unlike-eq t u e ([] ∷ rs) h = h
unlike-eq t u e ((v ∷ vs) ∷ rs) h = rw e h

ahead-longest : (t : Seen) (rs : List (List Seen)) → Longest rs → Longest (ahead t rs)
ahead-longest t [] h = (tt, tt, tt)
ahead-longest t ([] ∷ rs) h = absurd h
ahead-longest t ((u ∷ us) ∷ rs) h = pick (same t u) refl
  where
    pick : (b : Bool) → same t u ≡ b → Longest (cond b ((t ∷ u ∷ us) ∷ rs) ((t ∷ []) ∷ (u ∷ us) ∷ rs))
    pick true e = let d : t.header.fid ≡ u.header.fid = beq-eq t.header.fid u.header.fid e in ((rw e tt, alike-eq t u d us h.0), unlike-eq t u d rs h.1, h.2)
    pick false e = (tt, rw e tt, h)

pub runs-longest : (ts : List Seen) → Longest (runs ts)
runs-longest [] = tt
runs-longest (t ∷ ts) = ahead-longest t (runs ts) (runs-longest ts)

pub frame-stray : (o : Opening) (ts : List Seen) → frame_of o ts ++ stray_of o ts ≡ ts
frame-stray o [] = refl
frame-stray o (t ∷ ts) = ap (t ∷◌) (pick (closes o t) (frame-stray o ts))
  where
    pick : (b : Bool) → frame_of o ts ++ stray_of o ts ≡ ts → cond b [] (frame_of o ts) ++ cond b ts (stray_of o ts) ≡ ts
    pick true e = refl
    pick false e = e
