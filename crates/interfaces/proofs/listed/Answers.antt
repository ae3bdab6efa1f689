use Rattle.interfaces.proofs.Searching.{steps-in, next-falls}
use native.Mathlib.Omega.{arith}
use Rattle.interfaces.proofs.Listing.{listing-starts, listing-room, listing_full, listing-done, listing-more}
use Rattle.interfaces.proofs.listed.Goals as goal

pub loop-at-init : goal.loop-at-init
loop-at-init c = listing-starts _ _ _ c.no_stream-no_stream.ensures c.next-at.ensures

pub returns-then-count-eq-INTERFACES_MOST : goal.returns-then-count-eq-INTERFACES_MOST
returns-then-count-eq-INTERFACES_MOST c = search listing_full

pub offset_bounds-streams-count : goal.offset_bounds-streams-count
offset_bounds-streams-count c = omega (arith, listing-room _ _ _ _ c.loop-at.invariant c.if-count-eq-INTERFACES_MOST.false)

pub bounds-streams-count : goal.bounds-streams-count
bounds-streams-count c = listing-room _ _ _ _ c.loop-at.invariant c.if-count-eq-INTERFACES_MOST.false

pub overflow_add-count : goal.overflow_add-count
overflow_add-count c = omega (arith, listing-room _ _ _ _ c.loop-at.invariant c.if-count-eq-INTERFACES_MOST.false)

pub next-at-requires-in-loop-at : goal.next-at-requires-in-loop-at
next-at-requires-in-loop-at c = search steps-in

pub loop-at-smaller : goal.loop-at-smaller
loop-at-smaller c = search next-falls

pub loop-at-preserved : goal.loop-at-preserved
loop-at-preserved c = listing-more _ _ _ _ c.loop-at.invariant c.loop-at-test.true c.if-count-eq-INTERFACES_MOST.false _
    c.stream_at.ensures _ _ c.after.ensures c.next-at-in-loop-at.ensures

pub returns : goal.returns
returns c = search listing-done
