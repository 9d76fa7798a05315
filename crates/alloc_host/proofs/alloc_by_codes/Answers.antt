use mathlib.Core.Path.{◌∙◌}
use native.Mathlib.Omega.{arith}
use lib.Dec.{eqb}
use lib.ListN.{get_or}
use Rattle.tables.proofs.Limits.{fastgain-high}
use Rattle.alloc.proofs.Codes.{codes-tuned}
use Rattle.alloc.proofs.Edges.{none-allocated}
use Rattle.alloc.proofs.Lists.{zeros}
use Rattle.alloc_host.proofs.Leaks.{leak-low}
use Rattle.alloc_host.proofs.alloc_by_codes.Goals as goal

pub returns-then-end-start : goal.returns-then-end-start
returns-then-end-start c = c.no_bins.ensures ∙ none-allocated _ _ _ _ _ _ c.if-end-start.true

pub invariant_of-tables : goal.invariant_of-tables
invariant_of-tables c =
    record {
      log = c.log_add.ensures;
      bins = c.masktab.ensures;
      bounds = c.band_end.ensures;
      heard = c.hearing.ensures;
      pointed = c.pointers.ensures;
      share_most = λ k. let z = zeros 256 k in omega arith;
    }

pub allocate-requires-clause-channelled : goal.allocate-requires-clause-channelled
allocate-requires-clause-channelled c =
    let codes = c.args.codes.now in
    let r = c.requires.end_bound.2 in
    let l = leak-low (eqb (get_or codes 11 0) 1) (get_or codes 9 0) (get_or codes 10 0) r.cplfleak r.cplsleak in (
      record {
        within = rw c.channel_of-c.ensures c.requires.end_bound.0;
        fgain = rw c.channel_of-c.ensures (fastgain-high (get_or codes 6 0));
        fast = rw c.leak_by-l.ensures l.0;
        slow = rw c.leak_by-l.ensures l.1;
        segs = rw c.deltas_of-d.ensures r.segs;
      },
      rw c.params_by-p.ensures (codes-tuned _ _ _ _ _ _ r.fscod),
    )
