use Rattle.loader.specs.declared.faults.RecordsFault.TheVariants.{Bytes, Kind, Length, Tail}
use Rattle.loader.specs.declared.faults.GraphFault.{GraphFault}
use Rattle.loader.specs.declared.faults.GraphFault.TheVariants.{Records, Range, TooMany, Twice, Cycle}
use Rattle.refusal.specs.declared.layer.Layer.TheVariants as layer
use Rattle.refusal.specs.declared.refusal.Refusal.{Refusal}

-- the number, the place and the layer of each fault
abbrev pub refusal_of : GraphFault → Refusal
refusal_of (Records (Bytes b)) = record { number = 1; place = b.place; layer = layer.Bytes }
refusal_of (Records (Kind i)) = record { number = 2; place = i; layer = layer.Records }
refusal_of (Records (Length i)) = record { number = 3; place = i; layer = layer.Records }
refusal_of (Records (Tail i)) = record { number = 7; place = i; layer = layer.Records }
refusal_of (Range i) = record { number = 4; place = i; layer = layer.Graph }
refusal_of (TooMany i) = record { number = 5; place = i; layer = layer.Graph }
refusal_of (Twice i) = record { number = 6; place = i; layer = layer.Graph }
refusal_of (Cycle i) = record { number = 8; place = i; layer = layer.Graph }
