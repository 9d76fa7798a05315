-- The arguments of `allocate_block` from flat ones.
use Rattle.std.specs.Prelude.{Option, Some, None, Bool, false, cond, List, ℕ, get_or, replicate}
use Rattle.slots.specs.declared.Shape.{Shape}
use Rattle.allocation.specs.declared.AllocState.{AllocState}
use Rattle.allocation.specs.declared.Codes.{Codes}

abbrev pub sent_of : Bool → List ℕ → Option Codes
sent_of sent codes =
    cond sent
    (Some (record {
      sdcycod = get_or codes 0 0;
      fdcycod = get_or codes 1 0;
      sgaincod = get_or codes 2 0;
      dbpbcod = get_or codes 3 0;
      floorcod = get_or codes 4 0;
    }))
    None

abbrev pub state_of : Option Codes → ℕ → List ℕ → List ℕ → ℕ → ℕ → AllocState
state_of p csnroffst fsnroffst fgaincod cplfleak cplsleak =
    record { parameters = p; csnroffst = csnroffst; fsnroffst = fsnroffst; fgaincod = fgaincod; cplfleak = cplfleak; cplsleak = cplsleak }

abbrev pub shape_of : ℕ → Bool → Bool → List Bool → List Bool → List ℕ → ℕ → ℕ → Shape
shape_of nfchans lfeon cplinu ahtinu ahtread endmant cplstrt cplend =
    record {
      nfchans = nfchans;
      lfeon = lfeon;
      cplinu = cplinu;
      chincpl = replicate 5 false;
      ahtinu = ahtinu;
      ahtread = ahtread;
      endmant = endmant;
      cplstrt = cplstrt;
      cplend = cplend;
    }
