-- The types of fields: what they are without `const` and `volatile`, and how many bytes an element of one has.
use Rattle.std.specs.Prelude.{ℕ, ◌&&◌, ◌||◌, ◌==◌, Bool, not, List, length, codes, bytes_eq, filter, Option, Some, None}
use Rattle.std.specs.Prelude.{nat_lt, if◌then◌else◌}
use Rattle.std.specs.Cmp.Lexicographic.{pointwise}
use Rattle.std.specs.List.{list_any}
use Rattle.event_fields.specs.declared.field.NumberSize.{NumberSize}
use Rattle.event_fields.specs.declared.field.NumberSize.TheVariants.{One, Two, Four, Eight}
use Rattle.event_fields.specs.Texts.{parts_of}

-- a word of a type that counts: all but `const` and `volatile`
abbrev pub is_kept : List ℕ → Bool
is_kept word =
    nat_lt 0 (length word) && not (bytes_eq word (codes "const")) && not (bytes_eq word (codes "volatile"))

-- the words of a type that count
unfoldable pub words_of : List ℕ → List (List ℕ)
words_of text = filter is_kept (parts_of 32 text)

-- whether a type is the one of this name, but for `const` and `volatile`
unfoldable pub is_named : (name text : List ℕ) → Bool
is_named name text = pointwise bytes_eq (words_of text) (words_of name)

-- whether it is the one of these names, between which are commas
unfoldable pub is_among : (names text : List ℕ) → Bool
is_among names text = list_any (λ name. is_named name text) (parts_of 44 names)

-- whether a type points
unfoldable pub is_pointer : List ℕ → Bool
is_pointer text = list_any (λ b. b == 42) text

-- The number of bytes of C's own types and of the kernel's, on a machine of 64 bits, where an `int` has four bytes, a
-- `long` and a pointer eight (LP64). After include/linux/types.h, include/uapi/linux/types.h,
-- include/uapi/asm-generic/{int-ll64,posix_types}.h and include/linux/ktime.h of the kernel.
unfoldable pub is_byte_type : List ℕ → Bool
is_byte_type text =
    is_among (codes "char,signed char,unsigned char,bool,_Bool") text
    || is_among (codes "s8,u8,__s8,__u8,int8_t,uint8_t,u_int8_t,u_char,unchar") text

unfoldable pub is_two_byte_type : List ℕ → Bool
is_two_byte_type text =
    is_among (codes "short,short int,signed short,signed short int,unsigned short,unsigned short int") text
    || is_among (codes "s16,u16,__s16,__u16,__le16,__be16,__sum16,int16_t,uint16_t,u_int16_t,ushort,umode_t") text

unfoldable pub is_four_byte_type : List ℕ → Bool
is_four_byte_type text =
    is_among (codes "int,signed,signed int,unsigned,unsigned int") text
    || is_among (codes "s32,u32,__s32,__u32,__le32,__be32,__wsum,int32_t,uint32_t,u_int32_t,uint") text
    || is_among (codes "pid_t,uid_t,gid_t,dev_t,mode_t,gfp_t,fmode_t,key_t,clockid_t,mqd_t") text

unfoldable pub is_eight_byte_type : List ℕ → Bool
is_eight_byte_type text =
    is_among (codes "long,long int,signed long,signed long int,unsigned long,unsigned long int") text
    || is_among (codes "long long,long long int,signed long long,unsigned long long,unsigned long long int") text
    || is_among (codes "s64,u64,__s64,__u64,__le64,__be64,int64_t,uint64_t,u_int64_t,ulong,size_t,ssize_t") text
    || is_among (codes "loff_t,off_t,sector_t,blkcnt_t,ino_t,pgoff_t,time64_t,ktime_t,dma_addr_t,phys_addr_t") text

-- the size of an element of a type, if it is known
unfoldable pub type_size : List ℕ → Option NumberSize
type_size text =
    if is_pointer text || is_eight_byte_type text then Some Eight
    else if is_four_byte_type text then Some Four
    else if is_two_byte_type text then Some Two
    else if is_byte_type text then Some One
    else None
