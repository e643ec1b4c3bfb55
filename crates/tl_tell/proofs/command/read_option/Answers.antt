use Rattle.std.proofs.Common.{◌≡◌, Some, None, sym, arith}
use Rattle.std.proofs.lemmas.Result.{err_from_is_err_and}
use Rattle.tl_tell.specs.declared.command.Word.TheVariants.{Gives, Awaits}
use Rattle.tl_tell.specs.Words.{word_in}
use Rattle.tl_tell.proofs.Fits.{count_fewer, count_more, given_within, suits, within_with}
use Rattle.tl_tell.proofs.Options.{on_awaits, on_gives, on_no_value, on_none}
use Rattle.tl_tell.proofs.command.read_option.Goals as goal

pub value_at-requires : goal.value_at-requires
value_at-requires c =
    let word = c.index-words-at.result in
    let says : word_in c.args.given.now word ≡ Some (Awaits c.in-Some-Awaits.name) = sym (rw (c.in-Some-Awaits.field-0-is, c.as_bytes.ensures) at c.in-Some-Awaits.ensures) in
    let few = count_fewer c.in-Some-Awaits.name c.args.given.now (suits c.args.given.now word (Awaits c.in-Some-Awaits.name) says) in
    omega (arith, few, c.requires.few)

pub returns-in_err-value-in-Some-Awaits-clause-reads : goal.returns-in_err-value-in-Some-Awaits-clause-reads
returns-in_err-value-in-Some-Awaits-clause-reads c =
    let word = c.index-words-at.result in
    let says : word_in c.args.given.now word ≡ Some (Awaits c.in-Some-Awaits.name) = sym (rw (c.in-Some-Awaits.field-0-is, c.as_bytes.ensures) at c.in-Some-Awaits.ensures) in
    let e = err_from_is_err_and c.from_residual.result c.from_residual.ensures.1 in
    rw (e.1, e.2, c.in_err-value-in-Some-Awaits.ensures.1)
    (on_no_value c.args.words.now c.args.at c.args.given.now word c.requires.there c.index-words-at.is c.in-Some-Awaits.name says c.in_err-value-in-Some-Awaits.ensures.0)

pub returns-in-Some-Gives-clause-reads : goal.returns-in-Some-Gives-clause-reads
returns-in-Some-Gives-clause-reads c =
    let word = c.index-words-at.result in
    let says : word_in c.args.given.now word ≡ Some (Gives c.in-Some-Gives.name c.in-Some-Gives.value) =
    sym (rw (c.in-Some-Gives.field-0-is, c.as_bytes.ensures) at c.in-Some-Gives.ensures) in
    rw c.set.ensures
    (omega arith, on_gives c.args.words.now c.args.at c.args.given.now word c.requires.there c.index-words-at.is c.in-Some-Gives.name c.in-Some-Gives.value says)

pub returns-in-Some-Gives-clause-few : goal.returns-in-Some-Gives-clause-few
returns-in-Some-Gives-clause-few c =
    let word = c.index-words-at.result in
    let says : word_in c.args.given.now word ≡ Some (Gives c.in-Some-Gives.name c.in-Some-Gives.value) =
    sym (rw (c.in-Some-Gives.field-0-is, c.as_bytes.ensures) at c.in-Some-Gives.ensures) in
    let new = (suits c.args.given.now word (Gives c.in-Some-Gives.name c.in-Some-Gives.value) says).0 in
    let more = count_more c.in-Some-Gives.name c.in-Some-Gives.value c.args.given.now new in
    rw (c.set.ensures, more) (omega (arith, c.requires.few))

pub returns-in-Some-Gives-clause-within : goal.returns-in-Some-Gives-clause-within
returns-in-Some-Gives-clause-within c =
    let word = c.index-words-at.result in
    let says : word_in c.args.given.now word ≡ Some (Gives c.in-Some-Gives.name c.in-Some-Gives.value) =
    sym (rw (c.in-Some-Gives.field-0-is, c.as_bytes.ensures) at c.in-Some-Gives.ensures) in
    let fits = suits c.args.given.now word (Gives c.in-Some-Gives.name c.in-Some-Gives.value) says in
    rw c.set.ensures (within_with c.in-Some-Gives.name c.in-Some-Gives.value c.args.given.now c.requires.within fits.1 fits.2)

pub returns-in_ok-value-in-Some-Awaits-clause-reads : goal.returns-in_ok-value-in-Some-Awaits-clause-reads
returns-in_ok-value-in-Some-Awaits-clause-reads c =
    let word = c.index-words-at.result in
    let says : word_in c.args.given.now word ≡ Some (Awaits c.in-Some-Awaits.name) = sym (rw (c.in-Some-Awaits.field-0-is, c.as_bytes.ensures) at c.in-Some-Awaits.ensures) in
    rw c.set-in-Some-Awaits.ensures (
      omega arith,
      on_awaits c.args.words.now c.args.at c.args.given.now word c.requires.there c.index-words-at.is c.in-Some-Awaits.name c.in_ok-value-in-Some-Awaits.value says
          c.in_ok-value-in-Some-Awaits.ensures,
    )

pub returns-in_ok-value-in-Some-Awaits-clause-few : goal.returns-in_ok-value-in-Some-Awaits-clause-few
returns-in_ok-value-in-Some-Awaits-clause-few c =
    let word = c.index-words-at.result in
    let says : word_in c.args.given.now word ≡ Some (Awaits c.in-Some-Awaits.name) = sym (rw (c.in-Some-Awaits.field-0-is, c.as_bytes.ensures) at c.in-Some-Awaits.ensures) in
    let new = suits c.args.given.now word (Awaits c.in-Some-Awaits.name) says in
    let more = count_more c.in-Some-Awaits.name c.in_ok-value-in-Some-Awaits.value c.args.given.now new in
    rw (c.set-in-Some-Awaits.ensures, more) (omega (arith, c.requires.few))

pub returns-in_ok-value-in-Some-Awaits-clause-within : goal.returns-in_ok-value-in-Some-Awaits-clause-within
returns-in_ok-value-in-Some-Awaits-clause-within c =
    let within = given_within c.in-Some-Awaits.name _ c.in_ok-value-in-Some-Awaits.value c.in_ok-value-in-Some-Awaits.ensures in
    rw c.set-in-Some-Awaits.ensures
    (within_with c.in-Some-Awaits.name c.in_ok-value-in-Some-Awaits.value c.args.given.now c.requires.within within.0 within.1)

pub returns-in-None-clause-reads : goal.returns-in-None-clause-reads
returns-in-None-clause-reads c =
    let word = c.index-words-at.result in
    let says : word_in c.args.given.now word ≡ None = sym (rw c.as_bytes.ensures at c.in-None.ensures) in
    rw c.refused.ensures (on_none c.args.words.now c.args.at c.args.given.now word c.requires.there c.index-words-at.is says)
