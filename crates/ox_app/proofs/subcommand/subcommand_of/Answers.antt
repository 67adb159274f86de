use Rattle.std.proofs.Common.{◌∙◌, sym}
use Rattle.std.specs.Prelude.{codes, decimal}
use Rattle.std.proofs.lemmas.Slice.Eq.{bytes_eq-Decides}
use Rattle.ox_sat.specs.Profiles.{profile_word}
use Rattle.ox_app.proofs.Subcommands.{one_word, two_words, three_words}
use Rattle.ox_app.proofs.subcommand.subcommand_of.Goals as goal

pub returns-in-len1 : goal.returns-in-len1
returns-in-len1 c =
    let first = rw (c.as_slice.ensures, c.as_slice-then-words-lt2.ensures) at c.if-eq.ensures in
    one_word c.args.words.now c.first-item.result (codes "apply") c.in-len1.len_at_least c.in-len1.len_below c.first-item.is
    ((bytes_eq-Decides c.first-item.result (codes "apply")).0 (sym first))

pub returns-in-len1-2 : goal.returns-in-len1-2
returns-in-len1-2 c =
    let first = rw (c.as_slice-then-words-lt2-2.ensures, c.as_slice-then-words-lt2-3.ensures) at c.if-eq-2.ensures in
    one_word c.args.words.now c.first-item-then-words-lt2.result (codes "migrate") c.in-len1.len_at_least c.in-len1.len_below c.first-item-then-words-lt2.is
    ((bytes_eq-Decides c.first-item-then-words-lt2.result (codes "migrate")).0 (sym first))

pub returns-in-len1-3 : goal.returns-in-len1-3
returns-in-len1-3 c =
    let first = rw (c.as_slice-then-words-lt2-4.ensures, c.as_slice-then-words-lt2-5.ensures) at c.if-eq-3.ensures in
    one_word c.args.words.now c.first-item-then-words-lt2-2.result (codes "lead") c.in-len1.len_at_least c.in-len1.len_below c.first-item-then-words-lt2-2.is
    ((bytes_eq-Decides c.first-item-then-words-lt2-2.result (codes "lead")).0 (sym first))

pub returns-in-len1-4 : goal.returns-in-len1-4
returns-in-len1-4 c =
    let first = rw (c.as_slice-then-words-lt2-6.ensures, c.as_slice-then-words-lt2-7.ensures) at c.if-eq-4.ensures in
    one_word c.args.words.now c.first-item-then-words-lt2-3.result (codes "follow") c.in-len1.len_at_least c.in-len1.len_below c.first-item-then-words-lt2-3.is
    ((bytes_eq-Decides c.first-item-then-words-lt2-3.result (codes "follow")).0 (sym first))

pub returns-in-len1-5 : goal.returns-in-len1-5
returns-in-len1-5 c =
    let first = rw (c.as_slice-then-words-lt2-8.ensures, c.as_slice-then-words-lt2-9.ensures) at c.if-eq-5.ensures in
    one_word c.args.words.now c.first-item-then-words-lt2-4.result (codes "grow") c.in-len1.len_at_least c.in-len1.len_below c.first-item-then-words-lt2-4.is
    ((bytes_eq-Decides c.first-item-then-words-lt2-4.result (codes "grow")).0 (sym first))

pub returns-in-len2 : goal.returns-in-len2
returns-in-len2 c =
    let first = rw (c.as_slice-then-words-lt3.ensures, c.as_slice-then-words-lt3-2.ensures) at c.if-eq-6.ensures in
    two_words c.args.words.now c.first-item-then-words-lt3.result c.path-item.result (codes "query") c.as_slice-in-len2.result.now
    c.in-len2.len_at_least c.in-len2.len_below c.first-item-then-words-lt3.is c.path-item.is
    ((bytes_eq-Decides c.first-item-then-words-lt3.result (codes "query")).0 (sym first)) (sym c.as_slice-in-len2.ensures)

pub returns-in-Some : goal.returns-in-Some
returns-in-Some c =
    let first = rw (c.as_slice-then-words-lt3-3.ensures, c.as_slice-then-words-lt3-4.ensures) at c.if-eq-7.ensures in
    two_words c.args.words.now c.first-item-then-words-lt3-2.result c.profile-item.result (codes "fold") (profile_word c.in-Some.name)
    c.in-len2.len_at_least c.in-len2.len_below c.first-item-then-words-lt3-2.is c.profile-item.is
    ((bytes_eq-Decides c.first-item-then-words-lt3-2.result (codes "fold")).0 (sym first)) (sym c.as_slice-in-len2-2.ensures ∙ c.in-Some.ensures.found)

pub returns-in-Some-Some : goal.returns-in-Some-Some
returns-in-Some-Some c =
    let first = rw (c.as_slice-then-words-lt4.ensures, c.as_slice-then-words-lt4-2.ensures) at c.if-eq-10.ensures in
    let depth = c.in-Some-Some.ensures'.found in (
      depth.0,
      three_words c.args.words.now c.first-item-then-words-lt4.result c.profile-item-then-words-lt4.result c.depth-item.result
          (codes "init") (profile_word c.in-Some-Some.name) (decimal c.in-Some-Some.depth)
          c.in-len3.len_at_least c.in-len3.len_below c.first-item-then-words-lt4.is c.profile-item-then-words-lt4.is c.depth-item.is
          ((bytes_eq-Decides c.first-item-then-words-lt4.result (codes "init")).0 (sym first)) (sym c.as_slice-in-len3.ensures ∙ c.in-Some-Some.ensures.found) (sym c.as_slice-in-len3-2.ensures ∙ depth.1),
    )

pub returns-in-Some-number_in : goal.returns-in-Some-number_in
returns-in-Some-number_in c =
    let first = rw (c.as_slice-then-words-lt3-5.ensures, c.as_slice-then-words-lt3-6.ensures) at c.if-eq-8.ensures in
    let turns = c.in-Some-number_in.ensures.found in (
      turns.0,
      two_words c.args.words.now c.first-item-then-words-lt3-3.result c.turns-item.result (codes "serve") (decimal c.in-Some-number_in.turns)
          c.in-len2.len_at_least c.in-len2.len_below c.first-item-then-words-lt3-3.is c.turns-item.is
          ((bytes_eq-Decides c.first-item-then-words-lt3-3.result (codes "serve")).0 (sym first)) (sym c.as_slice-in-len2-3.ensures ∙ turns.1),
    )

pub returns-in-Some-number_in-2 : goal.returns-in-Some-number_in-2
returns-in-Some-number_in-2 c =
    let first = rw (c.as_slice-then-words-lt3-7.ensures, c.as_slice-then-words-lt3-8.ensures) at c.if-eq-9.ensures in
    let length = c.in-Some-number_in-2.ensures.found in (
      length.0,
      two_words c.args.words.now c.first-item-then-words-lt3-4.result c.length-item.result (codes "drill") (decimal c.in-Some-number_in-2.n)
          c.in-len2.len_at_least c.in-len2.len_below c.first-item-then-words-lt3-4.is c.length-item.is
          ((bytes_eq-Decides c.first-item-then-words-lt3-4.result (codes "drill")).0 (sym first)) (sym c.as_slice-in-len2-4.ensures ∙ length.1),
    )
