-- Which requests take no memory.
use Rattle.std.specs.Prelude.{Bool, true, false}
use Rattle.tl_manager.specs.declared.request.ManagerRequest.{ManagerRequest}
use Rattle.tl_manager.specs.declared.request.ManagerRequest.TheVariants.{Begin, Range, End, Orphans, Floor, Post, Claim}

abbrev pub takes_no_memory : ManagerRequest → Bool
takes_no_memory (Begin node seen) = false
takes_no_memory (Range low high) = false
takes_no_memory (End tid) = true
takes_no_memory (Orphans node) = false
takes_no_memory (Floor seen) = false
takes_no_memory (Post node also) = true
takes_no_memory (Claim node) = true
