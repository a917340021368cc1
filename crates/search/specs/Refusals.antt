use Rattle.refusal.specs.declared.layer.Layer.TheVariants as layers
use Rattle.refusal.specs.declared.refusal.Refusal.{Refusal}
use Rattle.search.specs.declared.fault.SearchFault.{SearchFault}
use Rattle.search.specs.declared.fault.SearchFault.TheVariants.{Table, List, Foreign, Unsettled}
use Rattle.search.specs.declared.fault.PageFault.{PageFault}
use Rattle.search.specs.declared.fault.PageFault.TheVariants.{Search, Short}

-- the number, the place and the layer of each fault of a call
abbrev pub search_refusal : SearchFault → Refusal
search_refusal Table = record { number = 9; place = 0; layer = layers.Search }
search_refusal List = record { number = 10; place = 0; layer = layers.Search }
search_refusal Foreign = record { number = 11; place = 0; layer = layers.Search }
search_refusal Unsettled = record { number = 12; place = 0; layer = layers.Search }

-- and of each fault of writing
abbrev pub page_refusal : PageFault → Refusal
page_refusal (Search e) = search_refusal e
page_refusal Short = record { number = 16; place = 0; layer = layers.Page }
