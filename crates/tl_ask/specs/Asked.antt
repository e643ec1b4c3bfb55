-- What is asked, as a request with its place.
use Rattle.std.specs.Prelude.{ℕ, List}
use Rattle.tl_base.specs.declared.place.Settings.{Settings}
use Rattle.tl_base.specs.declared.store.StoreRequest.{StoreRequest}
use Rattle.tl_manager.specs.declared.request.Request.TheVariants as request
use Rattle.tl_journal.specs.Ask.{Ask}
use Rattle.tl_journal.specs.Bytes.{place_of, shard_at, written}
use Rattle.tl_ask.specs.declared.asked.Asked.{Asked}

abbrev pub asked : Settings → Ask → Asked
asked settings ask = record { place = place_of settings ask; request = written ask }

-- a request to the shard of this key
abbrev pub at_key : Settings → List ℕ → StoreRequest → Asked
at_key settings key call = record { place = shard_at settings key; request = request.Store call }
