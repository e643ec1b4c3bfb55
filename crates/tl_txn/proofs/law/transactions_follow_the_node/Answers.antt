use Rattle.std.proofs.Common.{[], subst}
use Rattle.tl_txn.proofs.FollowsReads.{read_ends, read_goes, read_stops}
use Rattle.tl_txn.proofs.FollowsThin.{begins_so, ends_so, goes_on, kept_thin, stops_so, tells_so}
use Rattle.tl_txn.proofs.Thinned.{does_thin}
use Rattle.tl_txn.proofs.FollowsSteps.{IsOwnStep, commits_heard, may_hear, own_step}
use Rattle.tl_txn.proofs.NodeReads.{node_read_ends, node_read_goes, node_read_stops}
use Rattle.tl_txn.proofs.NotOdd.{not_odd}
use Rattle.tl_txn.proofs.law.transactions_follow_the_node.Goals as goal

pub returns-clause-keeps : goal.returns-clause-keeps
returns-clause-keeps c stage phase = kept_thin stage phase

pub returns-clause-thin : goal.returns-clause-thin
returns-clause-thin c settings catalog commits node statement doing heard told = does_thin settings catalog commits node statement doing heard told

pub returns-clause-going : goal.returns-clause-going
returns-clause-going c settings catalog node statement stage phase doing heard told mark h e f =
    goes_on settings catalog [] node statement stage phase doing heard told h e mark f

pub returns-clause-said : goal.returns-clause-said
returns-clause-said c settings catalog commits node statement stage phase doing heard told mark h e f =
    tells_so settings catalog commits node statement stage phase doing heard told h e mark f

pub returns-clause-begun : goal.returns-clause-begun
returns-clause-begun c settings catalog commits node statement stage phase doing heard told mark h e f =
    begins_so settings catalog commits node statement stage phase doing heard told h e mark f

pub returns-clause-ended : goal.returns-clause-ended
returns-clause-ended c settings catalog commits node statement stage phase doing heard told mark h e f =
    ends_so settings catalog commits node statement stage phase doing heard told h e mark f

pub returns-clause-strange : goal.returns-clause-strange
returns-clause-strange c settings catalog node statement stage phase doing heard told h e in_hand heard_so f =
    stops_so settings catalog [] node statement stage phase doing heard told h e in_hand heard_so f

pub returns-clause-not_odd : goal.returns-clause-not_odd
returns-clause-not_odd c settings number stage phase doing heard made e f =
    not_odd settings number stage phase doing heard made e f

pub returns-clause-steps : goal.returns-clause-steps
returns-clause-steps c settings number phase heard mark =
    ((λ e. subst IsOwnStep e (own_step settings number phase heard)), (λ e. subst IsOwnStep e (own_step settings number phase heard)))

pub returns-clause-reads_on : goal.returns-clause-reads_on
returns-clause-reads_on c settings live r reads left heard mark e = read_goes settings live r reads left heard mark e

pub returns-clause-reads_all : goal.returns-clause-reads_all
returns-clause-reads_all c settings live r reads left heard mark e = read_ends settings live r reads left heard mark e

pub returns-clause-hears : goal.returns-clause-hears
returns-clause-hears c catalog phase reply = may_hear catalog phase reply

pub returns-clause-hears_commits : goal.returns-clause-hears_commits
returns-clause-hears_commits c reply = commits_heard reply

pub returns-clause-reads_stop : goal.returns-clause-reads_stop
returns-clause-reads_stop c settings live r reads left heard e = read_stops settings live r reads left heard e

pub returns-clause-node_reads_on : goal.returns-clause-node_reads_on
returns-clause-node_reads_on c settings catalog node statement t reads live r left heard told mark h e =
    node_read_goes settings catalog node statement t told reads live r left heard h mark e

pub returns-clause-node_reads_all : goal.returns-clause-node_reads_all
returns-clause-node_reads_all c settings catalog node statement t reads live r left heard told mark h e =
    node_read_ends settings catalog node statement t told reads live r left heard h mark e

pub returns-clause-node_reads_stop : goal.returns-clause-node_reads_stop
returns-clause-node_reads_stop c settings catalog node statement t reads live r left heard told h e =
    node_read_stops settings catalog node statement t told reads live r left heard h e
