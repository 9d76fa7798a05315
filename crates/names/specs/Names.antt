-- The names of records: their numbers, and their spellings in byte order. Made by tools/names.py.
use Rattle.std.specs.Prelude.{List, [], ◌∷◌, ℕ}
use Prim.Native.String.{String}

-- a name's number and its spelling
pub record Name : Type 0 where
  pub number : ℕ
  pub spelling : String

infix 70 ◌named◌
abbrev pub ◌named◌ : ℕ → String → Name
n named s = record { number = n; spelling = s }

abbrev pub acmod : ℕ
acmod = 0

abbrev pub adconvtyp : ℕ
adconvtyp = 1

abbrev pub adconvtyp2 : ℕ
adconvtyp2 = 2

abbrev pub addbsi : ℕ
addbsi = 3

abbrev pub addbsie : ℕ
addbsie = 4

abbrev pub addbsil : ℕ
addbsil = 5

abbrev pub addche : ℕ
addche = 6

abbrev pub addspchdat1e : ℕ
addspchdat1e = 7

abbrev pub addspchdate : ℕ
addspchdate = 8

abbrev pub ahte : ℕ
ahte = 9

abbrev pub audprodi2e : ℕ
audprodi2e = 10

abbrev pub audprodie : ℕ
audprodie = 11

abbrev pub auxbits : ℕ
auxbits = 12

abbrev pub auxdatae : ℕ
auxdatae = 13

abbrev pub auxdatal : ℕ
auxdatal = 14

abbrev pub baie : ℕ
baie = 15

abbrev pub bamode : ℕ
bamode = 16

abbrev pub blkfsnroffst : ℕ
blkfsnroffst = 17

abbrev pub blkid : ℕ
blkid = 18

abbrev pub blkmixcfginfo : ℕ
blkmixcfginfo = 19

abbrev pub blkmixcfginfoe : ℕ
blkmixcfginfoe = 20

abbrev pub blkstrtinfo : ℕ
blkstrtinfo = 21

abbrev pub blkstrtinfoe : ℕ
blkstrtinfoe = 22

abbrev pub blksw : ℕ
blksw = 23

abbrev pub blkswe : ℕ
blkswe = 24

abbrev pub bsid : ℕ
bsid = 25

abbrev pub bsmod : ℕ
bsmod = 26

abbrev pub chahtinu : ℕ
chahtinu = 27

abbrev pub chanmap : ℕ
chanmap = 28

abbrev pub chanmape : ℕ
chanmape = 29

abbrev pub chbwcod : ℕ
chbwcod = 30

abbrev pub chexpstr : ℕ
chexpstr = 31

abbrev pub chincpl : ℕ
chincpl = 32

abbrev pub chinspx : ℕ
chinspx = 33

abbrev pub chinspxatten : ℕ
chinspxatten = 34

abbrev pub chintransproc : ℕ
chintransproc = 35

abbrev pub compr : ℕ
compr = 36

abbrev pub compr2 : ℕ
compr2 = 37

abbrev pub compr2e : ℕ
compr2e = 38

abbrev pub compre : ℕ
compre = 39

abbrev pub convexpstr : ℕ
convexpstr = 40

abbrev pub convexpstre : ℕ
convexpstre = 41

abbrev pub convsnroffst : ℕ
convsnroffst = 42

abbrev pub convsnroffste : ℕ
convsnroffste = 43

abbrev pub convsync : ℕ
convsync = 44

abbrev pub copyrightb : ℕ
copyrightb = 45

abbrev pub cplabsexp : ℕ
cplabsexp = 46

abbrev pub cplahtinu : ℕ
cplahtinu = 47

abbrev pub cplbegf : ℕ
cplbegf = 48

abbrev pub cplbndstrc : ℕ
cplbndstrc = 49

abbrev pub cplbndstrce : ℕ
cplbndstrce = 50

abbrev pub cplcoe : ℕ
cplcoe = 51

abbrev pub cplcoexp : ℕ
cplcoexp = 52

abbrev pub cplcomant : ℕ
cplcomant = 53

abbrev pub cpldeltba : ℕ
cpldeltba = 54

abbrev pub cpldeltbae : ℕ
cpldeltbae = 55

abbrev pub cpldeltlen : ℕ
cpldeltlen = 56

abbrev pub cpldeltnseg : ℕ
cpldeltnseg = 57

abbrev pub cpldeltoffst : ℕ
cpldeltoffst = 58

abbrev pub cplendf : ℕ
cplendf = 59

abbrev pub cplexps : ℕ
cplexps = 60

abbrev pub cplexpstr : ℕ
cplexpstr = 61

abbrev pub cplfgaincod : ℕ
cplfgaincod = 62

abbrev pub cplfleak : ℕ
cplfleak = 63

abbrev pub cplfsnroffst : ℕ
cplfsnroffst = 64

abbrev pub cplinu : ℕ
cplinu = 65

abbrev pub cplleake : ℕ
cplleake = 66

abbrev pub cplsleak : ℕ
cplsleak = 67

abbrev pub cplstre : ℕ
cplstre = 68

abbrev pub crc2 : ℕ
crc2 = 69

abbrev pub csnroffst : ℕ
csnroffst = 70

abbrev pub dbaflde : ℕ
dbaflde = 71

abbrev pub dbpbcod : ℕ
dbpbcod = 72

abbrev pub deltba : ℕ
deltba = 73

abbrev pub deltbae : ℕ
deltbae = 74

abbrev pub deltbaie : ℕ
deltbaie = 75

abbrev pub deltlen : ℕ
deltlen = 76

abbrev pub deltnseg : ℕ
deltnseg = 77

abbrev pub deltoffst : ℕ
deltoffst = 78

abbrev pub dheadphonmod : ℕ
dheadphonmod = 79

abbrev pub dialnorm : ℕ
dialnorm = 80

abbrev pub dialnorm2 : ℕ
dialnorm2 = 81

abbrev pub dithflag : ℕ
dithflag = 82

abbrev pub dithflage : ℕ
dithflage = 83

abbrev pub dmixmod : ℕ
dmixmod = 84

abbrev pub dmixscl : ℕ
dmixscl = 85

abbrev pub drcsrc : ℕ
drcsrc = 86

abbrev pub dsurexmod : ℕ
dsurexmod = 87

abbrev pub dsurmod : ℕ
dsurmod = 88

abbrev pub dynrng : ℕ
dynrng = 89

abbrev pub dynrng2 : ℕ
dynrng2 = 90

abbrev pub dynrng2e : ℕ
dynrng2e = 91

abbrev pub dynrnge : ℕ
dynrnge = 92

abbrev pub ecplinu : ℕ
ecplinu = 93

abbrev pub encinfo : ℕ
encinfo = 94

abbrev pub exps_ch : ℕ
exps_ch = 95

abbrev pub exps_ch_0 : ℕ
exps_ch_0 = 96

abbrev pub expstre : ℕ
expstre = 97

abbrev pub extpgmaux1scl : ℕ
extpgmaux1scl = 98

abbrev pub extpgmaux2scl : ℕ
extpgmaux2scl = 99

abbrev pub extpgmcscl : ℕ
extpgmcscl = 100

abbrev pub extpgmlfescl : ℕ
extpgmlfescl = 101

abbrev pub extpgmlscl : ℕ
extpgmlscl = 102

abbrev pub extpgmlsscl : ℕ
extpgmlsscl = 103

abbrev pub extpgmrscl : ℕ
extpgmrscl = 104

abbrev pub extpgmrsscl : ℕ
extpgmrsscl = 105

abbrev pub extpgmscl : ℕ
extpgmscl = 106

abbrev pub extpgmscle : ℕ
extpgmscle = 107

abbrev pub fdcycod : ℕ
fdcycod = 108

abbrev pub fgaincod : ℕ
fgaincod = 109

abbrev pub fgaincode : ℕ
fgaincode = 110

abbrev pub floorcod : ℕ
floorcod = 111

abbrev pub frmchexpstr : ℕ
frmchexpstr = 112

abbrev pub frmcplexpstr : ℕ
frmcplexpstr = 113

abbrev pub frmcsnroffst : ℕ
frmcsnroffst = 114

abbrev pub frmfgaincode : ℕ
frmfgaincode = 115

abbrev pub frmfsnroffst : ℕ
frmfsnroffst = 116

abbrev pub frmmixcfginfoe : ℕ
frmmixcfginfoe = 117

abbrev pub frmsiz : ℕ
frmsiz = 118

abbrev pub frmsizecod : ℕ
frmsizecod = 119

abbrev pub fscod : ℕ
fscod = 120

abbrev pub fsnroffst : ℕ
fsnroffst = 121

abbrev pub gainrng : ℕ
gainrng = 122

abbrev pub infomdate : ℕ
infomdate = 123

abbrev pub lfeahtinu : ℕ
lfeahtinu = 124

abbrev pub lfeexps : ℕ
lfeexps = 125

abbrev pub lfeexps_0 : ℕ
lfeexps_0 = 126

abbrev pub lfeexpstr : ℕ
lfeexpstr = 127

abbrev pub lfefgaincod : ℕ
lfefgaincod = 128

abbrev pub lfefsnroffst : ℕ
lfefsnroffst = 129

abbrev pub lfemixlevcod : ℕ
lfemixlevcod = 130

abbrev pub lfemixlevcode : ℕ
lfemixlevcode = 131

abbrev pub lfeon : ℕ
lfeon = 132

abbrev pub lorocmixlev : ℕ
lorocmixlev = 133

abbrev pub lorosurmixlev : ℕ
lorosurmixlev = 134

abbrev pub ltrtcmixlev : ℕ
ltrtcmixlev = 135

abbrev pub ltrtsurmixlev : ℕ
ltrtsurmixlev = 136

abbrev pub mantissas : ℕ
mantissas = 137

abbrev pub mixdata : ℕ
mixdata = 138

abbrev pub mixdata2e : ℕ
mixdata2e = 139

abbrev pub mixdata3e : ℕ
mixdata3e = 140

abbrev pub mixdef : ℕ
mixdef = 141

abbrev pub mixdeflen : ℕ
mixdeflen = 142

abbrev pub mixlevel : ℕ
mixlevel = 143

abbrev pub mixlevel2 : ℕ
mixlevel2 = 144

abbrev pub mixmdate : ℕ
mixmdate = 145

abbrev pub mstrcplco : ℕ
mstrcplco = 146

abbrev pub mstrspxco : ℕ
mstrspxco = 147

abbrev pub numblkscod : ℕ
numblkscod = 148

abbrev pub origbs : ℕ
origbs = 149

abbrev pub paninfo : ℕ
paninfo = 150

abbrev pub paninfo2 : ℕ
paninfo2 = 151

abbrev pub paninfo2e : ℕ
paninfo2e = 152

abbrev pub paninfoe : ℕ
paninfoe = 153

abbrev pub panmean : ℕ
panmean = 154

abbrev pub panmean2 : ℕ
panmean2 = 155

abbrev pub pgmscl : ℕ
pgmscl = 156

abbrev pub pgmscl2 : ℕ
pgmscl2 = 157

abbrev pub pgmscl2e : ℕ
pgmscl2e = 158

abbrev pub pgmscle : ℕ
pgmscle = 159

abbrev pub phsflg : ℕ
phsflg = 160

abbrev pub phsflginu : ℕ
phsflginu = 161

abbrev pub premixcmpscl : ℕ
premixcmpscl = 162

abbrev pub premixcmpsel : ℕ
premixcmpsel = 163

abbrev pub rematflg : ℕ
rematflg = 164

abbrev pub rematstr : ℕ
rematstr = 165

abbrev pub roomtyp : ℕ
roomtyp = 166

abbrev pub roomtyp2 : ℕ
roomtyp2 = 167

abbrev pub scale_exists : ℕ
scale_exists = 168

abbrev pub sdcycod : ℕ
sdcycod = 169

abbrev pub sgaincod : ℕ
sgaincod = 170

abbrev pub skipfld : ℕ
skipfld = 171

abbrev pub skipflde : ℕ
skipflde = 172

abbrev pub skipl : ℕ
skipl = 173

abbrev pub skiple : ℕ
skiple = 174

abbrev pub snroffste : ℕ
snroffste = 175

abbrev pub snroffststr : ℕ
snroffststr = 176

abbrev pub sourcefscod : ℕ
sourcefscod = 177

abbrev pub spchan1att : ℕ
spchan1att = 178

abbrev pub spchan2att : ℕ
spchan2att = 179

abbrev pub spchdat : ℕ
spchdat = 180

abbrev pub spchdat1 : ℕ
spchdat1 = 181

abbrev pub spchdat2 : ℕ
spchdat2 = 182

abbrev pub spxattencod : ℕ
spxattencod = 183

abbrev pub spxattene : ℕ
spxattene = 184

abbrev pub spxbegf : ℕ
spxbegf = 185

abbrev pub spxblnd : ℕ
spxblnd = 186

abbrev pub spxbndstrc : ℕ
spxbndstrc = 187

abbrev pub spxbndstrce : ℕ
spxbndstrce = 188

abbrev pub spxcoe : ℕ
spxcoe = 189

abbrev pub spxcoexp : ℕ
spxcoexp = 190

abbrev pub spxcomant : ℕ
spxcomant = 191

abbrev pub spxendf : ℕ
spxendf = 192

abbrev pub spxinu : ℕ
spxinu = 193

abbrev pub spxstre : ℕ
spxstre = 194

abbrev pub spxstrtf : ℕ
spxstrtf = 195

abbrev pub strmtyp : ℕ
strmtyp = 196

abbrev pub substreamid : ℕ
substreamid = 197

abbrev pub syncword : ℕ
syncword = 198

abbrev pub transproce : ℕ
transproce = 199

abbrev pub transproclen : ℕ
transproclen = 200

abbrev pub transprocloc : ℕ
transprocloc = 201

unfoldable pub names : List Name
names =
    acmod named "acmod" ∷
    adconvtyp named "adconvtyp" ∷
    adconvtyp2 named "adconvtyp2" ∷
    addbsi named "addbsi" ∷
    addbsie named "addbsie" ∷
    addbsil named "addbsil" ∷
    addche named "addche" ∷
    addspchdat1e named "addspchdat1e" ∷
    addspchdate named "addspchdate" ∷
    ahte named "ahte" ∷
    audprodi2e named "audprodi2e" ∷
    audprodie named "audprodie" ∷
    auxbits named "auxbits" ∷
    auxdatae named "auxdatae" ∷
    auxdatal named "auxdatal" ∷
    baie named "baie" ∷
    bamode named "bamode" ∷
    blkfsnroffst named "blkfsnroffst" ∷
    blkid named "blkid" ∷
    blkmixcfginfo named "blkmixcfginfo" ∷
    blkmixcfginfoe named "blkmixcfginfoe" ∷
    blkstrtinfo named "blkstrtinfo" ∷
    blkstrtinfoe named "blkstrtinfoe" ∷
    blksw named "blksw" ∷
    blkswe named "blkswe" ∷
    bsid named "bsid" ∷
    bsmod named "bsmod" ∷
    chahtinu named "chahtinu" ∷
    chanmap named "chanmap" ∷
    chanmape named "chanmape" ∷
    chbwcod named "chbwcod" ∷
    chexpstr named "chexpstr" ∷
    chincpl named "chincpl" ∷
    chinspx named "chinspx" ∷
    chinspxatten named "chinspxatten" ∷
    chintransproc named "chintransproc" ∷
    compr named "compr" ∷
    compr2 named "compr2" ∷
    compr2e named "compr2e" ∷
    compre named "compre" ∷
    convexpstr named "convexpstr" ∷
    convexpstre named "convexpstre" ∷
    convsnroffst named "convsnroffst" ∷
    convsnroffste named "convsnroffste" ∷
    convsync named "convsync" ∷
    copyrightb named "copyrightb" ∷
    cplabsexp named "cplabsexp" ∷
    cplahtinu named "cplahtinu" ∷
    cplbegf named "cplbegf" ∷
    cplbndstrc named "cplbndstrc" ∷
    cplbndstrce named "cplbndstrce" ∷
    cplcoe named "cplcoe" ∷
    cplcoexp named "cplcoexp" ∷
    cplcomant named "cplcomant" ∷
    cpldeltba named "cpldeltba" ∷
    cpldeltbae named "cpldeltbae" ∷
    cpldeltlen named "cpldeltlen" ∷
    cpldeltnseg named "cpldeltnseg" ∷
    cpldeltoffst named "cpldeltoffst" ∷
    cplendf named "cplendf" ∷
    cplexps named "cplexps" ∷
    cplexpstr named "cplexpstr" ∷
    cplfgaincod named "cplfgaincod" ∷
    cplfleak named "cplfleak" ∷
    cplfsnroffst named "cplfsnroffst" ∷
    cplinu named "cplinu" ∷
    cplleake named "cplleake" ∷
    cplsleak named "cplsleak" ∷
    cplstre named "cplstre" ∷
    crc2 named "crc2" ∷
    csnroffst named "csnroffst" ∷
    dbaflde named "dbaflde" ∷
    dbpbcod named "dbpbcod" ∷
    deltba named "deltba" ∷
    deltbae named "deltbae" ∷
    deltbaie named "deltbaie" ∷
    deltlen named "deltlen" ∷
    deltnseg named "deltnseg" ∷
    deltoffst named "deltoffst" ∷
    dheadphonmod named "dheadphonmod" ∷
    dialnorm named "dialnorm" ∷
    dialnorm2 named "dialnorm2" ∷
    dithflag named "dithflag" ∷
    dithflage named "dithflage" ∷
    dmixmod named "dmixmod" ∷
    dmixscl named "dmixscl" ∷
    drcsrc named "drcsrc" ∷
    dsurexmod named "dsurexmod" ∷
    dsurmod named "dsurmod" ∷
    dynrng named "dynrng" ∷
    dynrng2 named "dynrng2" ∷
    dynrng2e named "dynrng2e" ∷
    dynrnge named "dynrnge" ∷
    ecplinu named "ecplinu" ∷
    encinfo named "encinfo" ∷
    exps_ch named "exps[ch]" ∷
    exps_ch_0 named "exps[ch][0]" ∷
    expstre named "expstre" ∷
    extpgmaux1scl named "extpgmaux1scl" ∷
    extpgmaux2scl named "extpgmaux2scl" ∷
    extpgmcscl named "extpgmcscl" ∷
    extpgmlfescl named "extpgmlfescl" ∷
    extpgmlscl named "extpgmlscl" ∷
    extpgmlsscl named "extpgmlsscl" ∷
    extpgmrscl named "extpgmrscl" ∷
    extpgmrsscl named "extpgmrsscl" ∷
    extpgmscl named "extpgmscl" ∷
    extpgmscle named "extpgmscle" ∷
    fdcycod named "fdcycod" ∷
    fgaincod named "fgaincod" ∷
    fgaincode named "fgaincode" ∷
    floorcod named "floorcod" ∷
    frmchexpstr named "frmchexpstr" ∷
    frmcplexpstr named "frmcplexpstr" ∷
    frmcsnroffst named "frmcsnroffst" ∷
    frmfgaincode named "frmfgaincode" ∷
    frmfsnroffst named "frmfsnroffst" ∷
    frmmixcfginfoe named "frmmixcfginfoe" ∷
    frmsiz named "frmsiz" ∷
    frmsizecod named "frmsizecod" ∷
    fscod named "fscod" ∷
    fsnroffst named "fsnroffst" ∷
    gainrng named "gainrng" ∷
    infomdate named "infomdate" ∷
    lfeahtinu named "lfeahtinu" ∷
    lfeexps named "lfeexps" ∷
    lfeexps_0 named "lfeexps[0]" ∷
    lfeexpstr named "lfeexpstr" ∷
    lfefgaincod named "lfefgaincod" ∷
    lfefsnroffst named "lfefsnroffst" ∷
    lfemixlevcod named "lfemixlevcod" ∷
    lfemixlevcode named "lfemixlevcode" ∷
    lfeon named "lfeon" ∷
    lorocmixlev named "lorocmixlev" ∷
    lorosurmixlev named "lorosurmixlev" ∷
    ltrtcmixlev named "ltrtcmixlev" ∷
    ltrtsurmixlev named "ltrtsurmixlev" ∷
    mantissas named "mantissas" ∷
    mixdata named "mixdata" ∷
    mixdata2e named "mixdata2e" ∷
    mixdata3e named "mixdata3e" ∷
    mixdef named "mixdef" ∷
    mixdeflen named "mixdeflen" ∷
    mixlevel named "mixlevel" ∷
    mixlevel2 named "mixlevel2" ∷
    mixmdate named "mixmdate" ∷
    mstrcplco named "mstrcplco" ∷
    mstrspxco named "mstrspxco" ∷
    numblkscod named "numblkscod" ∷
    origbs named "origbs" ∷
    paninfo named "paninfo" ∷
    paninfo2 named "paninfo2" ∷
    paninfo2e named "paninfo2e" ∷
    paninfoe named "paninfoe" ∷
    panmean named "panmean" ∷
    panmean2 named "panmean2" ∷
    pgmscl named "pgmscl" ∷
    pgmscl2 named "pgmscl2" ∷
    pgmscl2e named "pgmscl2e" ∷
    pgmscle named "pgmscle" ∷
    phsflg named "phsflg" ∷
    phsflginu named "phsflginu" ∷
    premixcmpscl named "premixcmpscl" ∷
    premixcmpsel named "premixcmpsel" ∷
    rematflg named "rematflg" ∷
    rematstr named "rematstr" ∷
    roomtyp named "roomtyp" ∷
    roomtyp2 named "roomtyp2" ∷
    scale_exists named "scale_exists" ∷
    sdcycod named "sdcycod" ∷
    sgaincod named "sgaincod" ∷
    skipfld named "skipfld" ∷
    skipflde named "skipflde" ∷
    skipl named "skipl" ∷
    skiple named "skiple" ∷
    snroffste named "snroffste" ∷
    snroffststr named "snroffststr" ∷
    sourcefscod named "sourcefscod" ∷
    spchan1att named "spchan1att" ∷
    spchan2att named "spchan2att" ∷
    spchdat named "spchdat" ∷
    spchdat1 named "spchdat1" ∷
    spchdat2 named "spchdat2" ∷
    spxattencod named "spxattencod" ∷
    spxattene named "spxattene" ∷
    spxbegf named "spxbegf" ∷
    spxblnd named "spxblnd" ∷
    spxbndstrc named "spxbndstrc" ∷
    spxbndstrce named "spxbndstrce" ∷
    spxcoe named "spxcoe" ∷
    spxcoexp named "spxcoexp" ∷
    spxcomant named "spxcomant" ∷
    spxendf named "spxendf" ∷
    spxinu named "spxinu" ∷
    spxstre named "spxstre" ∷
    spxstrtf named "spxstrtf" ∷
    strmtyp named "strmtyp" ∷
    substreamid named "substreamid" ∷
    syncword named "syncword" ∷
    transproce named "transproce" ∷
    transproclen named "transproclen" ∷
    transprocloc named "transprocloc" ∷
    []
