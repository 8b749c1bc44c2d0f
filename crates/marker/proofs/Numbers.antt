-- No two faults have one number, and none has the number of an entry without one.
use Rattle.std.specs.Prelude.{ℕ, [], ◌∷◌, ◌-◌, ◌≡◌, get_or}
use Rattle.std.proofs.Common.{refl, sym, ap, ◌∙◌}
use Rattle.std.proofs.Math.Nat.{suc-ne-zero}
use Rattle.marker.specs.declared.faults.Fault.{Fault}
use Rattle.marker.specs.declared.faults.Fault.TheVariants.{Malformed, Falls, Unawaited, Differs, Overdue, Interrupts, Stops}
use Rattle.marker.specs.Faults.{fault_number}

-- the fault with a number
abbrev fault_with : ℕ → Fault
fault_with n = get_or (Malformed ∷ Falls ∷ Unawaited ∷ Differs ∷ Overdue ∷ Interrupts ∷ Stops ∷ []) (n - 20) Stops

known : (f : Fault) → fault_with (fault_number f) ≡ f
known Malformed = refl
known Falls = refl
known Unawaited = refl
known Differs = refl
known Overdue = refl
known Interrupts = refl
known Stops = refl

pub apart : (f g : Fault) → fault_number f ≡ fault_number g → f ≡ g
apart f g e = sym (known f) ∙ ap fault_with e ∙ known g

pub above : (f : Fault) → fault_number f ≡ 0 → ⊥
above Malformed p = suc-ne-zero _ p
above Falls p = suc-ne-zero _ p
above Unawaited p = suc-ne-zero _ p
above Differs p = suc-ne-zero _ p
above Overdue p = suc-ne-zero _ p
above Interrupts p = suc-ne-zero _ p
above Stops p = suc-ne-zero _ p
