use Rattle.refusal.specs.declared.layer.Layer.TheVariants.{Check}
use Rattle.refusal.specs.declared.refusal.Refusal.{Refusal}
use Rattle.schedule.specs.declared.fault.CheckFault.{CheckFault}
use Rattle.schedule.specs.declared.fault.CheckFault.TheVariants.{Rows, Early, Overlap}

-- the number, the place and the layer of each fault of the check
abbrev pub check_refusal : CheckFault → Refusal
check_refusal (Rows i) = record { number = 13; place = i; layer = Check }
check_refusal (Early t) = record { number = 14; place = t; layer = Check }
check_refusal (Overlap t) = record { number = 15; place = t; layer = Check }
