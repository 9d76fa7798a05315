-- What a name means to those who change frames: the role of each name, as the Rust gives it to its records.
use Rattle.std.specs.Prelude.{cond, List, [], ◌∷◌, ℕ, eqb}
use Rattle.names.specs.Names.{syncword, strmtyp, substreamid, frmsiz, dialnorm, compre, compr, dialnorm2, compr2e, compr2, addbsi, blkstrtinfoe, blkstrtinfo, dynrnge, dynrng, dynrng2e, dynrng2, skiple, skipl, skipfld, mantissas, auxbits, auxdatal, auxdatae, encinfo, crc2}
use Rattle.names.specs.declared.Role.{Role}
use Rattle.names.specs.declared.Role.TheVariants.{Plain, Sync, Crc2, CrcRsv, FrameSize, Dialnorm, ComprExists, Compr, DynrngExists, Dynrng, Skiple, Skipl, Skipfld, Addbsi, Mantissas, AuxBits, AuxDataL, AuxDataE, BlkStrtInfoE, BlkStrtInfo}

-- a name that has a role of its own
pub record Roled : Type 0 where
  pub name : ℕ
  pub role : Role

infix 70 ◌is◌
abbrev pub ◌is◌ : ℕ → Role → Roled
n is r = record { name = n; role = r }

-- in the order of the frame; what follows the role is the programme, 0 or 1
unfoldable pub roled : List Roled
roled =
    syncword is Sync ∷
    strmtyp is FrameSize ∷
    substreamid is FrameSize ∷
    frmsiz is FrameSize ∷
    dialnorm is Dialnorm 0 ∷
    compre is ComprExists 0 ∷
    compr is Compr 0 ∷
    dialnorm2 is Dialnorm 1 ∷
    compr2e is ComprExists 1 ∷
    compr2 is Compr 1 ∷
    addbsi is Addbsi ∷
    blkstrtinfoe is BlkStrtInfoE ∷
    blkstrtinfo is BlkStrtInfo ∷
    dynrnge is DynrngExists 0 ∷
    dynrng is Dynrng 0 ∷
    dynrng2e is DynrngExists 1 ∷
    dynrng2 is Dynrng 1 ∷
    skiple is Skiple ∷
    skipl is Skipl ∷
    skipfld is Skipfld ∷
    mantissas is Mantissas ∷
    auxbits is AuxBits ∷
    auxdatal is AuxDataL ∷
    auxdatae is AuxDataE ∷
    encinfo is CrcRsv ∷
    crc2 is Crc2 ∷
    []

-- the role that a list gives to a name; Plain where it gives none
unfoldable pub role_in : List Roled → ℕ → Role
role_in [] n = Plain
role_in (x ∷ xs) n = cond (eqb n x.name) x.role (role_in xs n)

abbrev pub role_of : ℕ → Role
role_of n = role_in roled n
