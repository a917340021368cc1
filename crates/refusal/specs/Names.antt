use Rattle.std.specs.Prelude.{ℕ, List, codes}
use Rattle.refusal.specs.declared.layer.Layer.{Layer}
use Rattle.refusal.specs.declared.layer.Layer.TheVariants.{Bytes, Records, Graph, Search, Check, Page}

-- the name of each layer, as bytes
abbrev pub name_of : Layer → List ℕ
name_of Bytes = codes "bytes"
name_of Records = codes "records"
name_of Graph = codes "graph"
name_of Search = codes "search"
name_of Check = codes "check"
name_of Page = codes "page"
