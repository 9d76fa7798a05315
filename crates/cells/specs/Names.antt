-- The cells, by the names of the elements and helper variables of A/52 and of TS 102 366. A number in brackets says of how many
-- cells a name is the first. Cells 2 to 31 can be counters. Written by tools/cells.py.
use Rattle.std.specs.Prelude.{ℕ}

-- one more than the number of the block, 0 outside of blocks: the block part of a record is one less
abbrev pub BLOCK : ℕ
BLOCK = 1

-- the block, from 0
abbrev pub BLK : ℕ
BLK = 2

-- the channel, from 0
abbrev pub CH : ℕ
CH = 3

-- a band or sub-band
abbrev pub BND : ℕ
BND = 4

-- a delta segment, from 0
abbrev pub SEG : ℕ
SEG = 5

-- a slot: the channels 0 to 4, coupling 5, LFE 6
abbrev pub SLOT : ℕ
SLOT = 6

-- a coupling sub-band, counted from the first of all
abbrev pub SUB : ℕ
SUB = 7

abbrev pub SYNCWORD : ℕ
SYNCWORD = 32

abbrev pub STRMTYP : ℕ
STRMTYP = 33

abbrev pub SUBSTREAMID : ℕ
SUBSTREAMID = 34

abbrev pub FRMSIZ : ℕ
FRMSIZ = 35

abbrev pub FSCOD : ℕ
FSCOD = 36

abbrev pub NUMBLKSCOD : ℕ
NUMBLKSCOD = 37

-- the number of blocks, 1, 2, 3 or 6
abbrev pub NUMBLKS : ℕ
NUMBLKS = 38

abbrev pub ACMOD : ℕ
ACMOD = 39

-- the number of full bandwidth channels
abbrev pub NFCHANS : ℕ
NFCHANS = 40

abbrev pub LFEON : ℕ
LFEON = 41

abbrev pub BSID : ℕ
BSID = 42

abbrev pub COMPRE : ℕ
COMPRE = 43

abbrev pub COMPR2E : ℕ
COMPR2E = 44

abbrev pub CHANMAPE : ℕ
CHANMAPE = 45

abbrev pub MIXMDATE : ℕ
MIXMDATE = 46

abbrev pub LFEMIXLEVCODE : ℕ
LFEMIXLEVCODE = 47

abbrev pub PGMSCLE : ℕ
PGMSCLE = 48

abbrev pub PGMSCL2E : ℕ
PGMSCL2E = 49

abbrev pub EXTPGMSCLE : ℕ
EXTPGMSCLE = 50

abbrev pub MIXDEF : ℕ
MIXDEF = 51

abbrev pub MIXDEFLEN : ℕ
MIXDEFLEN = 52

-- where the mixing data begin
abbrev pub MIXSTART : ℕ
MIXSTART = 53

-- where those of their bits end that are read as elements
abbrev pub MIXEND : ℕ
MIXEND = 54

-- how many bits these are
abbrev pub MIXUSED : ℕ
MIXUSED = 55

-- how many bits the mixing data have
abbrev pub MIXBITS : ℕ
MIXBITS = 56

abbrev pub MIXDATA2E : ℕ
MIXDATA2E = 57

-- extpgmlscle and the flags like it
abbrev pub SCALE_EXISTS : ℕ
SCALE_EXISTS = 58

abbrev pub ADDCHE : ℕ
ADDCHE = 59

abbrev pub MIXDATA3E : ℕ
MIXDATA3E = 60

abbrev pub ADDSPCHDATE : ℕ
ADDSPCHDATE = 61

abbrev pub ADDSPCHDAT1E : ℕ
ADDSPCHDAT1E = 62

abbrev pub PANINFOE : ℕ
PANINFOE = 63

abbrev pub PANINFO2E : ℕ
PANINFO2E = 64

abbrev pub FRMMIXCFGINFOE : ℕ
FRMMIXCFGINFOE = 65

abbrev pub BLKMIXCFGINFOE : ℕ
BLKMIXCFGINFOE = 66

abbrev pub INFOMDATE : ℕ
INFOMDATE = 67

abbrev pub AUDPRODIE : ℕ
AUDPRODIE = 68

abbrev pub AUDPRODI2E : ℕ
AUDPRODI2E = 69

abbrev pub BLKID : ℕ
BLKID = 70

abbrev pub ADDBSIE : ℕ
ADDBSIE = 71

abbrev pub ADDBSIL : ℕ
ADDBSIL = 72

abbrev pub EXPSTRE : ℕ
EXPSTRE = 73

abbrev pub AHTE : ℕ
AHTE = 74

abbrev pub SNROFFSTSTR : ℕ
SNROFFSTSTR = 75

abbrev pub TRANSPROCE : ℕ
TRANSPROCE = 76

abbrev pub BLKSWE : ℕ
BLKSWE = 77

abbrev pub DITHFLAGE : ℕ
DITHFLAGE = 78

abbrev pub BAMODE : ℕ
BAMODE = 79

abbrev pub FRMFGAINCODE : ℕ
FRMFGAINCODE = 80

abbrev pub DBAFLDE : ℕ
DBAFLDE = 81

abbrev pub SKIPFLDE : ℕ
SKIPFLDE = 82

abbrev pub SPXATTENE : ℕ
SPXATTENE = 83

-- [6] by block
abbrev pub CPLSTRE : ℕ
CPLSTRE = 84

-- [6] cplinu by block
abbrev pub CPLINUS : ℕ
CPLINUS = 90

abbrev pub NCPLBLKS : ℕ
NCPLBLKS = 96

-- [6] by block
abbrev pub CPLEXPSTR : ℕ
CPLEXPSTR = 97

-- [48] by block and channel
abbrev pub CHEXPSTR : ℕ
CHEXPSTR = 103

-- [6] by block
abbrev pub LFEEXPSTR : ℕ
LFEEXPSTR = 151

abbrev pub FRMCPLEXPSTR : ℕ
FRMCPLEXPSTR = 157

abbrev pub FRMCHEXPSTR : ℕ
FRMCHEXPSTR = 158

abbrev pub CONVEXPSTRE : ℕ
CONVEXPSTRE = 159

abbrev pub NCPLREGS : ℕ
NCPLREGS = 160

-- [5] by channel
abbrev pub NCHREGS : ℕ
NCHREGS = 161

abbrev pub NLFEREGS : ℕ
NLFEREGS = 166

-- [7] by slot
abbrev pub AHTINU : ℕ
AHTINU = 167

-- [7] whether the mantissas of a slot of the adaptive hybrid transform were read in an earlier block, by slot
abbrev pub AHT_READ : ℕ
AHT_READ = 174

abbrev pub FRMFSNROFFST : ℕ
FRMFSNROFFST = 181

abbrev pub CHINTRANSPROC : ℕ
CHINTRANSPROC = 182

abbrev pub CHINSPXATTEN : ℕ
CHINSPXATTEN = 183

abbrev pub BLKSTRTINFOE : ℕ
BLKSTRTINFOE = 184

-- the width of a span
abbrev pub WIDTH : ℕ
WIDTH = 185

-- [6] by block
abbrev pub BLOCK_STARTS : ℕ
BLOCK_STARTS = 186

abbrev pub DYNRNGE : ℕ
DYNRNGE = 192

abbrev pub DYNRNG2E : ℕ
DYNRNG2E = 193

abbrev pub SPXSTRE : ℕ
SPXSTRE = 194

abbrev pub SPXINU : ℕ
SPXINU = 195

-- [5] by channel
abbrev pub CHINSPX : ℕ
CHINSPX = 196

abbrev pub SPXBEGF : ℕ
SPXBEGF = 201

abbrev pub SPXENDF : ℕ
SPXENDF = 202

-- spx_begin_subbnd
abbrev pub SPX_BEGIN : ℕ
SPX_BEGIN = 203

-- spx_end_subbnd
abbrev pub SPX_END : ℕ
SPX_END = 204

abbrev pub SPXBNDSTRCE : ℕ
SPXBNDSTRCE = 205

-- [17] by sub-band
abbrev pub SPXBNDSTRC : ℕ
SPXBNDSTRC = 206

-- how many blocks use spectral extension
abbrev pub SPX_BLOCKS : ℕ
SPX_BLOCKS = 223

abbrev pub NSPXBNDS : ℕ
NSPXBNDS = 224

-- [5] by channel
abbrev pub FIRSTSPXCOS : ℕ
FIRSTSPXCOS = 225

abbrev pub SPXCOE : ℕ
SPXCOE = 230

-- of the present block
abbrev pub CPLINU : ℕ
CPLINU = 231

abbrev pub ECPLINU : ℕ
ECPLINU = 232

-- [5] by channel
abbrev pub CHINCPL : ℕ
CHINCPL = 233

abbrev pub PHSFLGINU : ℕ
PHSFLGINU = 238

abbrev pub CPLBEGF : ℕ
CPLBEGF = 239

abbrev pub CPLENDF : ℕ
CPLENDF = 240

-- the first sub-band past the coupling range: cplendf + 3
abbrev pub CPL_SUBND_END : ℕ
CPL_SUBND_END = 241

abbrev pub NCPLSUBND : ℕ
NCPLSUBND = 242

abbrev pub CPLBNDSTRCE : ℕ
CPLBNDSTRCE = 243

-- [18] by sub-band
abbrev pub CPLBNDSTRC : ℕ
CPLBNDSTRC = 244

abbrev pub NCPLBND : ℕ
NCPLBND = 262

-- how many blocks use coupling
abbrev pub CPL_BLOCKS : ℕ
CPL_BLOCKS = 263

-- [5] by channel
abbrev pub FIRSTCPLCOS : ℕ
FIRSTCPLCOS = 264

abbrev pub FIRSTCPLLEAK : ℕ
FIRSTCPLLEAK = 269

-- [5] by channel
abbrev pub CPLCOE : ℕ
CPLCOE = 270

-- whether a coupling coordinate of the two channels is sent
abbrev pub PHSFLGE : ℕ
PHSFLGE = 275

abbrev pub REMATSTR : ℕ
REMATSTR = 276

abbrev pub NREMATBD : ℕ
NREMATBD = 277

-- [5] by channel
abbrev pub CHBWCOD : ℕ
CHBWCOD = 278

-- [5] whether chbwcod was sent, by channel
abbrev pub CHBWSENT : ℕ
CHBWSENT = 283

-- cplstrtmant, the first bin of coupling
abbrev pub CPLSTRT : ℕ
CPLSTRT = 288

-- cplendmant, the first bin past coupling
abbrev pub CPLEND : ℕ
CPLEND = 289

-- [5] endmant, the first bin past each channel
abbrev pub ENDMANT : ℕ
ENDMANT = 290

-- the absolute exponent of a set
abbrev pub ABSEXP : ℕ
ABSEXP = 295

-- the first bin of the coupling exponents that are held
abbrev pub HELDSTRT : ℕ
HELDSTRT = 296

-- [7] the first bin past the exponents that are held, 0 for none, by slot
abbrev pub HELDEND : ℕ
HELDEND = 297

abbrev pub BAIE : ℕ
BAIE = 304

-- whether the five parameters below were ever sent
abbrev pub BAI_SENT : ℕ
BAI_SENT = 305

abbrev pub SDCYCOD : ℕ
SDCYCOD = 306

abbrev pub FDCYCOD : ℕ
FDCYCOD = 307

abbrev pub SGAINCOD : ℕ
SGAINCOD = 308

abbrev pub DBPBCOD : ℕ
DBPBCOD = 309

abbrev pub FLOORCOD : ℕ
FLOORCOD = 310

abbrev pub SNROFFSTE : ℕ
SNROFFSTE = 311

abbrev pub CSNROFFST : ℕ
CSNROFFST = 312

abbrev pub CPLFLEAK : ℕ
CPLFLEAK = 313

abbrev pub CPLSLEAK : ℕ
CPLSLEAK = 314

abbrev pub BLKFSNROFFST : ℕ
BLKFSNROFFST = 315

-- [7] by slot
abbrev pub FSNROFFST : ℕ
FSNROFFST = 316

abbrev pub FGAINCODE : ℕ
FGAINCODE = 323

-- [7] by slot
abbrev pub FGAINCOD : ℕ
FGAINCOD = 324

abbrev pub CONVSNROFFSTE : ℕ
CONVSNROFFSTE = 331

abbrev pub CPLLEAKE : ℕ
CPLLEAKE = 332

abbrev pub DELTBAIE : ℕ
DELTBAIE = 333

-- [6] the delta code by slot
abbrev pub DELTBAE : ℕ
DELTBAE = 334

-- deltnseg or cpldeltnseg
abbrev pub NSEG : ℕ
NSEG = 340

-- [6] the number of segments in use by slot, 0 for none (one more than the element says)
abbrev pub DELTNSEG : ℕ
DELTNSEG = 341

-- [48] by slot and segment
abbrev pub DELTOFFST : ℕ
DELTOFFST = 347

-- [48] by slot and segment
abbrev pub DELTLEN : ℕ
DELTLEN = 395

-- [48] by slot and segment
abbrev pub DELTBA : ℕ
DELTBA = 443

abbrev pub SKIPLE : ℕ
SKIPLE = 491

abbrev pub SKIPL : ℕ
SKIPL = 492

-- [6] by block
abbrev pub MANTISSA_STARTS : ℕ
MANTISSA_STARTS = 493

-- [8] what the walk of a block's mantissas tells: its GAQ tags, and the bits of each slot
abbrev pub TAGS : ℕ
TAGS = 499

-- [48] the bits of the slots, by block, in rows of eight
abbrev pub SLOT_BITS : ℕ
SLOT_BITS = 507

-- the GAQ tags so far
abbrev pub AHT_TAGS : ℕ
AHT_TAGS = 555

-- the bit after the last block
abbrev pub AUDIO_END : ℕ
AUDIO_END = 556

-- the bit after the frame
abbrev pub FRAME_END : ℕ
FRAME_END = 557

-- how many bits follow the audio
abbrev pub AFTER_AUDIO : ℕ
AFTER_AUDIO = 558

-- auxdatae, looked at ahead
abbrev pub AUXDATAE : ℕ
AUXDATAE = 559

-- the bit after auxdatae
abbrev pub AFTER_AUXDATAE : ℕ
AFTER_AUXDATAE = 560

abbrev pub AUXDATAL : ℕ
AUXDATAL = 561
