-- A well-formed entry fits its 12 bytes.
use Prim.Native.Nat.{ℕ, zero, suc, ◌%◌, ◌^◌, ◌<◌}
use mathlib.Core.Bool.{Bool, ◌&&◌}
use mathlib.Core.List.{List, [], ◌∷◌}
use native.Mathlib.Omega.{arith}
use lib.Dec.{T, eqb, ltb, ltb→lt, eqb→eq}
use Rattle.timecode.specs.Time.{day}
use Rattle.deck.specs.Calls.{flags_fit}
use Rattle.record.specs.declared.Entry.{Entry}
use Rattle.record.specs.Entries.{fits, WellFormed, All}
use Rattle.record.specs.Bytes.{InBytes}
use Rattle.record.proofs.Lists.{and_left, and_right}

both : (a b : Bool) → T (a && b) → T a × T b
both a b h = (and_left a b h, and_right a b h)

abbrev Small : ℕ → Entry → Type 0
Small k e = (k < 256) × (e.flags < 256) × (e.content < 2 ^ 32)

small : (k : ℕ) (e : Entry) → T (fits k e) → Small k e
unfolding fits
small zero e h =
    let (f, c) = both (flags_fit e.flags) (ltb e.content 256) h in
    let l = ltb→lt e.flags 128 (and_right (eqb (e.flags % 16) 0) (ltb e.flags 128) f) in
    (omega arith, omega arith, omega (arith, ltb→lt e.content 256 c))
small (suc zero) e h =
    let (f, c) = both (eqb e.flags 0) (ltb e.content 256) h in
    (omega arith, omega (arith, eqb→eq e.flags 0 f), omega (arith, ltb→lt e.content 256 c))
small (suc (suc zero)) e h =
    let (f, c) = both (eqb e.flags 0) (ltb e.content day) h in
    (omega arith, omega (arith, eqb→eq e.flags 0 f), omega (arith, ltb→lt e.content day c))
small (suc (suc (suc zero))) e h =
    let (f, c) = both (eqb e.flags 0) (eqb e.content 0) h in
    (omega arith, omega (arith, eqb→eq e.flags 0 f), omega (arith, eqb→eq e.content 0 c))
small (suc (suc (suc (suc k)))) e h = absurd h

in_bytes : (e : Entry) → WellFormed e → InBytes e
in_bytes e h =
    let (f, t) = both (fits e.kind e) (ltb e.time (2 ^ 48)) h in
    let (k, l, c) = small e.kind e f in
    record { kind = k; flags = l; content = c; time = ltb→lt e.time (2 ^ 48) t }

pub all-in-bytes : (es : List Entry) → All WellFormed es → All InBytes es
all-in-bytes [] h = tt
all-in-bytes (e ∷ es) h = (in_bytes e h.0, all-in-bytes es h.1)
